pub mod Builds
pub mod Items
pub mod Show
pub mod Stores
pub mod Texts
