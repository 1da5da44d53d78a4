-- The lemmas of this crate.
pub mod Refusals
pub mod FormInduction
pub mod MeaningSteps
pub mod BindSizes
pub mod Numbers
pub mod Room
pub mod Seams
pub mod Args
pub mod Joins
pub mod Nested
pub mod Loops
pub mod InnermostLemmas
