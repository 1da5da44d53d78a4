-- The definitions of this crate, one module for each subject.
pub mod Naming
pub mod Runs
pub mod Reference
