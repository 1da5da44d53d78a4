-- The lemmas of this crate.
pub mod Given
pub mod OneMore
pub mod Lent
pub mod Runs
pub mod RunChanges
