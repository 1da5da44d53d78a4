-- The definitions of this crate, one module for each subject.
pub mod Binding
pub mod Refusals
pub mod Statements
pub mod Calls
pub mod Bodies
pub mod Functions
pub mod State
pub mod Resolving
pub mod Innermost
