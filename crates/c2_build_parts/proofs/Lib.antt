pub mod NewParts
mod Pieces
