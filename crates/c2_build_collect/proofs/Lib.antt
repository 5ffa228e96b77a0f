mod Causes
mod Drafts
mod Due
mod Ended
mod Filled
mod Leaving
mod Planned
mod Questioned
mod Refused
mod Stages
pub mod TheLaws
mod Unasked
