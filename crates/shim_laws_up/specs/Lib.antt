-- The definitions of this crate, one module for each subject.
pub mod Rewriting
pub mod Keeping
pub mod Around
pub mod Titles
pub mod Accepting
