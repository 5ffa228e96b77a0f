pub mod Bases
mod Covering
pub mod Frames
pub mod Placing
pub mod TheLaws
