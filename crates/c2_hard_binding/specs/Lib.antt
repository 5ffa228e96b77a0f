pub mod Bindings
pub mod Fields
pub mod Found
