mod Answered
mod Making
pub mod TheLaws
