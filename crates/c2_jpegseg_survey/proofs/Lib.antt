pub mod Answers
pub mod RunRanges
