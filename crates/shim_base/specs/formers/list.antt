-- How a list is stored.
pub mod List
