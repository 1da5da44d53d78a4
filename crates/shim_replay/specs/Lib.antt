-- The definitions of this crate, one module for each subject.
pub mod JournalTexts
pub mod Entries
pub mod Scanning
pub mod Answers
pub mod Laws
pub mod Replaying
