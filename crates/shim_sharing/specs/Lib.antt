-- The definitions of this crate, one module for each subject.
pub mod Room
pub mod Sharing
pub mod Refusals
pub mod Numbers
pub mod Accepting
pub mod Laws
