-- The definitions of this crate, one module for each subject.
pub mod Successors
pub mod Turns
pub mod Pieces
pub mod FrameViews
pub mod Depths
pub mod Cursors
pub mod Unwinding
pub mod Variables
