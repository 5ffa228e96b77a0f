mod Alike
mod Answers
mod BindingRows
mod Contents
mod Covered
mod Decided
mod EachComparison
mod Facts
mod Files
mod Holding
mod Labels
mod Links
mod Lists
mod OneComparison
mod OneStore
mod Pairs
pub mod Places
mod Steps
mod Stored
pub mod TheLaws
mod Trees
pub mod Unwritten
mod Valid
mod ValidBinding
mod Walk
