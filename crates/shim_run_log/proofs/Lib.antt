-- The lemmas of this crate, one module for each subject.
pub mod HaveValues
pub mod Listed
pub mod Logged
pub mod Mapped
pub mod Numbered
pub mod Counted
pub mod Summed
pub mod Reserved
pub mod ReservedAll
pub mod AllStepped
pub mod WaitsAdded
