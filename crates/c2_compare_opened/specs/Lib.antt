pub mod Comparing
pub mod Settled
pub mod Sides
