pub mod Rows
pub mod Faults
pub mod Children
pub mod Paths
