pub mod Numbers
pub mod Pieces
pub mod Spelled
pub mod TheLaws
pub mod Written
