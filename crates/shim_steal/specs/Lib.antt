-- The definitions of this crate, one module for each subject.
pub mod Counting
pub mod Views
pub mod Kept
pub mod Steps
pub mod Rule
pub mod Run
pub mod Deques
pub mod Places
pub mod Lanes
pub mod Making
