-- The definition of this crate.
pub mod Turns
