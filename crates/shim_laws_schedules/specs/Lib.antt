-- The definitions of this crate, one module for each subject.
pub mod Waiting
pub mod ChangingPlaces
pub mod Orders
pub mod Rounds
pub mod Laws
pub mod Throws
pub mod ListedOnce
