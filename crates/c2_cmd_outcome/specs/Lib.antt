pub mod Left
pub mod Outcome
pub mod Reply
pub mod Status
