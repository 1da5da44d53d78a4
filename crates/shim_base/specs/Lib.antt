-- The definitions of this crate, one module for each subject.
pub mod formers
pub mod Lists
pub mod Value
pub mod Operators
pub mod Tokens
pub mod Cutting
pub mod Paths
pub mod PathLaws
pub mod PathTexts
pub mod SharedPaths
