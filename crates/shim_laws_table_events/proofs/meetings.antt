-- The lemmas of rendezvous, one module for each subject.
pub mod Among
pub mod BelowForks
pub mod AtHome
pub mod Descents
pub mod Dies
pub mod Leading
pub mod Terminates
pub mod Lists
pub mod Meets
pub mod Names
pub mod Plans
pub mod Poisoned
pub mod Replacing
pub mod Receives
