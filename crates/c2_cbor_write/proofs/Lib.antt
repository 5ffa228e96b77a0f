pub mod Lengths
pub mod EqualKeys
pub mod Writable
pub mod Entries
pub mod PlainKeys
pub mod Copies
pub mod Grown
