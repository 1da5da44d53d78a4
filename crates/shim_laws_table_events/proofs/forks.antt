-- The lemmas of forks, one module for each subject.
pub mod Lists
pub mod Orders
pub mod Readied
pub mod Above
pub mod OwnSteps
pub mod Traps
pub mod Block
pub mod Counted
pub mod Handed
pub mod Forks
