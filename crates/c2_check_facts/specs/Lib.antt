pub mod Facts
pub mod Indices
