-- The lemmas of this crate, one module for each subject.
pub mod Progress
pub mod Weaker
pub mod Starting
