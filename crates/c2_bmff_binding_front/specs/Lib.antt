pub mod Digests
pub mod Putting
