-- The definitions of this crate, one module for each subject.
pub mod Ties
pub mod TiedTrees
pub mod Laws
