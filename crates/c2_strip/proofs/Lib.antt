mod Answering
mod Endings
mod Strips
mod Taking
pub mod TheLaws
