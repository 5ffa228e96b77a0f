pub mod Founds
pub mod Writing
pub mod Laws
pub mod Numbers
pub mod Refusals
pub mod Peeks
