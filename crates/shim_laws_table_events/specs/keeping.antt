-- The definitions of keeping, one module for each subject.
pub mod Knowing
pub mod Tables
pub mod Moves
pub mod Propagating
pub mod Laws
pub mod Acting
