pub mod Manifests
pub mod Finding
pub mod Flags
pub mod Wanted
pub mod Less
