pub mod Errors
pub mod Grounds
pub mod Steps
