pub mod Keeping
pub mod Surveys
pub mod Answers
