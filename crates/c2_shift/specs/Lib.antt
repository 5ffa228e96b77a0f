pub mod Causes
pub mod Fitting
pub mod Parts
pub mod Walking
