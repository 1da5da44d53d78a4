-- The lemmas of this crate, one module for each subject.
pub mod FirstEvents
pub mod Outcomes
pub mod RootChannels
