-- The definitions of this crate, one module for each subject.
pub mod RunEnds
pub mod Batches
pub mod Reasons
pub mod Recorded
pub mod SourceActions
pub mod Answer
pub mod SourceActionEnds
pub mod AnswerView
pub mod Views
