-- How the values that hold others are stored, so that recursive types may go through them.
pub mod boxed
pub mod list
