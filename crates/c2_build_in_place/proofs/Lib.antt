mod Numbered
mod InsertPointed
pub mod Stored
pub mod Endings
pub mod Leaving
