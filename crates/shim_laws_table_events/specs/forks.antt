-- The definitions of forks, one module for each subject.
pub mod Forking
