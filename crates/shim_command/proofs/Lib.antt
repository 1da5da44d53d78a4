-- The lemmas of this crate, one module for each subject.
pub mod Arguments
pub mod Fits
pub mod Given
pub mod ModeWords
pub mod Numbers
pub mod Taken
