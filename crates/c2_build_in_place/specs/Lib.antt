pub mod Numbers
pub mod Writings
