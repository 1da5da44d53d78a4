-- The definitions of this crate, one module for each subject.
pub mod Maps
pub mod Logged
pub mod Waits
pub mod Counted
pub mod Summed
pub mod Reserved
pub mod Events
pub mod Entries
