pub mod Clears
pub mod Lengths
pub mod Written
