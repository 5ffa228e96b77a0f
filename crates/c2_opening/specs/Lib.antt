pub mod Media
pub mod Opened
