mod Causes
mod Containers
mod Finding
pub mod TheLaws
