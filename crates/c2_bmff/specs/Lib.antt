pub mod Matched
pub mod Trails
