-- The lemmas of closes, one module for each subject.
pub mod Closed
pub mod Closes
pub mod Cuts
pub mod RunningChildren
pub mod Labels
pub mod Saying
pub mod ClosedFork
