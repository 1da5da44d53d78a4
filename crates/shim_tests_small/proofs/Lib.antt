-- The lemmas of this crate, and the definitions of trees at work on small processes.
pub mod Examples
pub mod Steps
pub mod Closes
