-- The lemmas of this crate.
pub mod Quiets
