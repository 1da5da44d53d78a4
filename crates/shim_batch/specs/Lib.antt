-- The definitions of this crate, one module for each subject.
pub mod Parts
pub mod Runs
