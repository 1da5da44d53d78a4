-- The definitions of this crate, one module for each subject.
pub mod Process
pub mod Deaths
pub mod Quiets
pub mod Pieces
pub mod Laws
pub mod Views
pub mod Sameness
