-- The lemmas of this crate, one module for each subject.
pub mod ExecuteLemmas
pub mod SourceSlots
pub mod MeaningEnds
pub mod Causes
pub mod TreeEnds
pub mod Statuses
pub mod Greatest
pub mod Outcomes
pub mod Reached
pub mod FunctionUnits
pub mod Explaining
pub mod Beginnings
pub mod FaultyLines
pub mod SourceActionLemmas
