pub mod PathLemmas
pub mod PathWritten
pub mod Pieces
