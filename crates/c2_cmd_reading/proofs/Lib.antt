mod Asked
mod Comparing
mod EachOutcome
mod Faults
mod Lines
mod Listing
mod OneOutcome
mod Preparing
mod Replying
pub mod TheLaws
