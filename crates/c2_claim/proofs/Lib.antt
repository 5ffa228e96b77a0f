pub mod Apart
mod PutIn
mod Steps
pub mod Telling
pub mod TheLaws
pub mod Written
