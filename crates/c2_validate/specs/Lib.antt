pub mod External
pub mod Boxes
pub mod Checked
pub mod Checks
pub mod Counts
pub mod Validation
