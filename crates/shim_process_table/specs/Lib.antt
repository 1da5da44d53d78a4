-- The definitions of this crate, one module for each subject.
pub mod Closing
pub mod Stepping
pub mod Lookups
pub mod Due
pub mod Queue
pub mod Touching
pub mod Acting
pub mod Changing
pub mod Forking
pub mod Descent
pub mod Planning
pub mod Meeting
pub mod Naming
pub mod Poisoning
