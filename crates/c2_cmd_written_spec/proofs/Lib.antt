pub mod Builds
pub mod Calls
pub mod Left
pub mod Refused
pub mod Taking
