-- The definitions of this crate, one module for each subject.
pub mod ProcessLists
pub mod RunStates
pub mod Fields
pub mod CheckingOut
pub mod Quiescence
pub mod Enqueueing
pub mod Gathering
pub mod Receiving
pub mod Settling
pub mod PastCounts
pub mod Room
pub mod Several
pub mod Endings
