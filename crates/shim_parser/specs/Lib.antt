-- The definitions of this crate, one module for each subject.
pub mod TerminalView
pub mod TokenView
pub mod ReaderViews
pub mod Parts
pub mod Parsing
pub mod Calls
pub mod Declares
pub mod Headers
pub mod OpeningView
pub mod Statements
pub mod Functions
pub mod Cutting
pub mod Sources
