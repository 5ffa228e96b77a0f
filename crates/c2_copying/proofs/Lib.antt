pub mod Appending
mod Kept
pub mod Spares
pub mod TheLaws
mod Written
