-- The lemmas of this crate.
pub mod Rolls
pub mod Sound
pub mod Goes
pub mod Cursors
pub mod Went
pub mod Returns
pub mod Unwinds
pub mod Fitting
pub mod Counting
