pub mod Opened
pub mod Checks
pub mod Grounds
