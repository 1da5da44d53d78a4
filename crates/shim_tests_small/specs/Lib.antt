-- The definitions of this crate, one module for each subject.
pub mod Small
pub mod SmallForks
pub mod SmallLaws
