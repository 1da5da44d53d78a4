-- The lemmas of keeping, one module for each subject.
pub mod Acts
pub mod Forks
pub mod Gone
pub mod Knowing
pub mod Marks
pub mod Moved
pub mod OneLess
pub mod Starts
pub mod Steps
