-- The definitions of this crate, one module for each subject.
pub mod Counting
pub mod Views
pub mod Kept
pub mod Steps
pub mod Rule
pub mod Chairs
pub mod Closing
pub mod Run
