-- The lemmas of this crate, one module for each subject.
pub mod Codes
pub mod Runs
pub mod Undisturbed
pub mod Listed
pub mod Entries
pub mod Ends
pub mod Moments
pub mod Keeping
pub mod Examples
