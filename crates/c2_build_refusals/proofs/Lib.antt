pub mod Doing
pub mod FirstRefusal
pub mod Inputs
pub mod Judged
pub mod Media
pub mod Outside
pub mod Passing
mod Seen
pub mod Stages
pub mod TheLaws
