-- The lemmas of this crate, one module for each subject.
pub mod Joining
pub mod Runs
pub mod Sends
