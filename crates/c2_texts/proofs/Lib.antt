pub mod BoxLines
pub mod Characters
pub mod Hex
pub mod Pieces
pub mod Plain
