pub mod Message
pub mod Tested
pub mod Refusals
pub mod Signed
