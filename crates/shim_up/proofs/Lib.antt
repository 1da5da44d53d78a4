pub mod SameNames
pub mod LeastNew
pub mod UpCases
