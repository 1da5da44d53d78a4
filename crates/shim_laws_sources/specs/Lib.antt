-- The definitions of this crate, one module for each subject.
pub mod DeclaredSorts
pub mod Sources
pub mod Anchored
pub mod Homes
