-- The lemmas of this crate.
pub mod Counting
pub mod PartSteps
pub mod LiftInduction
pub mod EachKind
pub mod Ascending
pub mod Marks
pub mod Usages
pub mod Sends
