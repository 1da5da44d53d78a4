-- The definitions of this crate, one module for each subject.
pub mod Changes
pub mod Ownerships
pub mod Given
pub mod ArgumentFaults
pub mod Lendings
pub mod Runs
