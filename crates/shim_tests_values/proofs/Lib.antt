-- The lemmas of this crate, one module for each subject.
pub mod Keeping
pub mod Options
