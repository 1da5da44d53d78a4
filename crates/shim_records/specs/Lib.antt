-- The definitions of this crate, one module for each subject.
pub mod Members
pub mod Pairs
pub mod Ways
pub mod Blocks
pub mod Fresh
pub mod Waiting
pub mod Representing
pub mod Labels
pub mod CountingOff
pub mod Recomputing
pub mod UpdatesAbove
pub mod Acted
pub mod Died
pub mod Killed
