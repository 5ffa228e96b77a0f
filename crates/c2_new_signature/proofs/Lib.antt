mod Decided
mod HeaderEntries
mod Padded
mod SignedLaws
mod Tests
pub mod TheLaws
