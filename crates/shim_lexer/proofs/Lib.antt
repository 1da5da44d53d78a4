pub mod TableLemmas
pub mod DigitLemmas
pub mod Taken
pub mod Passes
pub mod Runs
