-- The lemmas of this crate, one module for each subject.
pub mod Both
pub mod SoundTies
pub mod NodesAlike
pub mod ReadyAlike
pub mod SourcesAlike
pub mod WalksAlike
pub mod ActsTied
pub mod NodesChanged
pub mod DescentsTied
pub mod EventsTied
pub mod EndsAlike
pub mod EqualStates
pub mod RunsTied
