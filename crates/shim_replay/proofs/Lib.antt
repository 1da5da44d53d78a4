-- The lemmas of this crate, one module for each subject.
pub mod Pairs
pub mod Lines
pub mod NumbersRead
pub mod PathsRead
pub mod EntriesRead
pub mod LineFeeds
pub mod JournalLaws
pub mod Faults
pub mod InRange
pub mod Answered
pub mod Replayed
