-- The definitions of this crate, one module for each subject.
pub mod Count
pub mod Files
pub mod MemFiles
pub mod MemSink
pub mod Sink
