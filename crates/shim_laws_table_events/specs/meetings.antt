-- The definitions of rendezvous, one module for each subject.
pub mod Receiving
pub mod Dying
pub mod Sharers
pub mod Descents
pub mod Meetings
pub mod Plans
pub mod Names
pub mod Poisons
pub mod Laws
