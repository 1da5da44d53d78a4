-- The lemmas of this crate, one module for each subject.
pub mod Counts
pub mod Accepting
pub mod Traced
