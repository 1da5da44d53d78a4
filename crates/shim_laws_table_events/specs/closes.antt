-- The definitions of closes, one module for each subject.
pub mod Closing
pub mod Laws
