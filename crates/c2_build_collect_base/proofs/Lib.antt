mod Boxed
mod Files
mod Flags
mod Heard
mod Joins
mod Lasts
mod Named
mod Opened
mod Pair
mod Stages
mod Tests
pub mod TheLaws
mod Told
