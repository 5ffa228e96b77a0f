pub mod Shared
pub mod Appended
