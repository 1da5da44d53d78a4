-- The lemmas of this crate, one module for each subject.
pub mod RowLemmas
pub mod ReadFacts
pub mod ReadsOn
pub mod Batches
pub mod Preparing
pub mod Contents
