pub mod Causes
pub mod Covered
pub mod Differing
pub mod Shown
pub mod Writing
