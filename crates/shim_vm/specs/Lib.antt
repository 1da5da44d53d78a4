-- The definitions of this crate, one module for each subject.
pub mod Computing
pub mod Gathering
pub mod Actions
pub mod Putting
pub mod Places
pub mod Resuming
pub mod Bursts
pub mod MarkedStops
pub mod KeptStops
pub mod Fusing
