-- The lemmas of this crate, one module for each subject.
pub mod Lists
pub mod Totals
pub mod Parts
pub mod Allowed
pub mod Numbers
pub mod RuleHolds
pub mod Runs
pub mod Takes
pub mod Alone
pub mod Linking
