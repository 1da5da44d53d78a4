pub mod Joining
pub mod Numbers
pub mod PublishedCode
pub mod StatementKinds
pub mod StatementNumbers
