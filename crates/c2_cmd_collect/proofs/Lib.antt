mod Answered
mod Checks
mod Making
pub mod TheLaws
