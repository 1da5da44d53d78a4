-- The definitions of this crate, one module for each subject.
pub mod Refusal
pub mod Report
pub mod Summary
