-- The definitions of this crate, one module for each subject.
pub mod Code
pub mod Drafts
pub mod Layout
pub mod Listing
pub mod MachineCode
pub mod Programs
pub mod Published
