-- The definitions of this crate, one module for each subject.
pub mod Journals
pub mod Grants
pub mod Moves
pub mod Ends
pub mod ReadOff
pub mod Nets
