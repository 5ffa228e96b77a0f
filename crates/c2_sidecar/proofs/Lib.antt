mod Answering
mod Beside
mod Extraction
mod Locating
pub mod TheLaws
