mod Causes
mod Drafts
mod Ended
mod Films
mod First
mod Rows
mod Sized
mod Stages
pub mod TheLaws
mod Told
