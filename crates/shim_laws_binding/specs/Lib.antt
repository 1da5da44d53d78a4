-- The definitions of this crate, one module for each subject.
pub mod TextOrder
pub mod Naming
pub mod Innermost
pub mod TextNames
pub mod HandedOn
pub mod LexicalScope
