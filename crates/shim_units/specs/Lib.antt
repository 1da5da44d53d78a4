-- The definitions of this crate, one module for each subject.
pub mod Parts
pub mod Calls
pub mod Uses
pub mod Captures
pub mod Usages
pub mod Places
pub mod Moving
pub mod Own
pub mod LiftContextView
pub mod Lifting
pub mod BranchCapturing
pub mod PartFold
pub mod Rule
pub mod Units
pub mod Numbering
pub mod Sizes
pub mod OfText
