-- The definitions of this crate, one module for each subject.
pub mod Nodes
pub mod Descents
pub mod Acts
pub mod Poison
pub mod Places
pub mod Trees
pub mod Systems
pub mod Walks
pub mod Sound
pub mod Quiets
pub mod Laws
pub mod Endings
pub mod Listing
pub mod Advancing
