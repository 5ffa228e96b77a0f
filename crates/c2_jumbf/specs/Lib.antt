pub mod Heads
pub mod Fields
pub mod Labels
pub mod Flat
pub mod Parsed
pub mod Described
pub mod Own
