pub mod Laws
pub mod Left
pub mod Outcomes
pub mod Reading
