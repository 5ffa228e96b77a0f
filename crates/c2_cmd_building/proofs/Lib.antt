mod Making
mod Sampling
pub mod TheLaws
