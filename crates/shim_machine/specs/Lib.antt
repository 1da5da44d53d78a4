-- The definitions of this crate, one module for each subject.
pub mod Machine
pub mod Correspondence
pub mod CodeRuns
pub mod Simulation
pub mod MarkStops
pub mod Unwinds
pub mod Forking
pub mod StackHeights
pub mod SamePlaces
