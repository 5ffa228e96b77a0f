pub mod ByStores
pub mod Errors
pub mod Outcomes
