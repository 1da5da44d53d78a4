-- The definitions of this crate, one module for each subject.
pub mod Scanned
pub mod Lexing
