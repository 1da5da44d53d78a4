-- The definitions of this crate, one module for each subject.
pub mod InForce
pub mod InScope
pub mod Named
pub mod Streams
pub mod Thrown
pub mod Ends
pub mod FrameLabels
pub mod FrameLocations
pub mod StreamHolders
pub mod SettledFrames
