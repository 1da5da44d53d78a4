-- The lemmas of waking, one module for each subject.
pub mod PairsFound
pub mod Readiness
pub mod RecordDecisions
pub mod Idle
pub mod Same
pub mod NoMore
pub mod Requeueing
pub mod EventQueue
