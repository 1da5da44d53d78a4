-- The definitions of this crate, one module for each subject.
pub mod Kept
