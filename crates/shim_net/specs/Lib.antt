-- The definitions of this crate, one module for each subject.
pub mod Entries
pub mod Nets
pub mod CheckingOut
pub mod Codes
pub mod Granting
pub mod Absorbing
pub mod Settling
pub mod Standings
pub mod Stepping
pub mod Progress
