-- The lemmas of this crate.
pub mod Exceptions
pub mod Standing
pub mod Entering
pub mod Resting
pub mod Installing
pub mod Rooms
pub mod MadeChildren
pub mod Forking
pub mod SamePlaces
pub mod SameStates
pub mod Accepting
pub mod Sounding
pub mod Sends
