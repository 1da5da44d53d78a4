-- The definitions of this crate, one module for each subject.
pub mod Holding
pub mod Waits
pub mod Cycles
pub mod Holds
pub mod Numbers
pub mod Gathering
pub mod Rings
pub mod Judging
pub mod Laws
