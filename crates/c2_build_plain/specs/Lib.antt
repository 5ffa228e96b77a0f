pub mod Building
pub mod Answers
pub mod Asked
pub mod Meeting
pub mod Steps
pub mod Restored
