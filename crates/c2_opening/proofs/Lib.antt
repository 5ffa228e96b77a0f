mod Finding
mod OneMedia
mod OneOpening
mod Reading
pub mod TheLaws
