-- The definitions of this crate, one module for each subject.
pub mod Terminals
pub mod Limits
pub mod Grammar
pub mod Text
pub mod Printing
pub mod Same
pub mod Names
pub mod Table
pub mod Distinct
pub mod Occurrences
pub mod Sizes
pub mod ShortText
