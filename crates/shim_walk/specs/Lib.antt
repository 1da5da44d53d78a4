-- The definitions of this crate, one module for each subject.
pub mod States
pub mod Actions
pub mod StatementContexts
pub mod Entries
pub mod WalkLaws
pub mod Receivers
pub mod ChildrenMade
pub mod ForkResults
pub mod Returning
