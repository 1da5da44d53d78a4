-- The definitions of this crate, one module for each subject.
pub mod Command
pub mod Modes
pub mod Jobs
