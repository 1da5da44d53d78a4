-- The definitions of this crate, one module for each subject.
pub mod Modes
pub mod Moments
pub mod Reads
pub mod Answer
pub mod Call
pub mod Rows
pub mod Views
pub mod Prepared
pub mod PreparedView
