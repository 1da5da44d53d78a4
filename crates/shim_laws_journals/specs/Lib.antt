-- The definitions of this crate, one module for each subject.
pub mod Ranges
pub mod Accepting
pub mod Traces
