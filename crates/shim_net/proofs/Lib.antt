-- The lemmas of this crate, one module for each subject.
pub mod Keeping
pub mod Granting
pub mod CheckingOut
pub mod Closing
pub mod Settling
pub mod InPlace
pub mod Sends
pub mod Ends
pub mod Progress
