-- The lemmas of this crate, one module for each subject.
pub mod NetEnds
pub mod BatchNets
pub mod JournalAnswers
