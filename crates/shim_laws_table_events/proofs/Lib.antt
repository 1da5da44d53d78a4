-- The lemmas of this crate, one module for each subject.
pub mod keeping
pub mod forks
pub mod closes
pub mod meetings
pub mod queues
