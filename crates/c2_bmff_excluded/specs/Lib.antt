pub mod Marks
pub mod Parts
pub mod Runs
pub mod Windows
