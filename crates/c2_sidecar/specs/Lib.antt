pub mod Checking
pub mod Extracting
pub mod Extracts
pub mod Stages
