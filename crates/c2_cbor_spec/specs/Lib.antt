pub mod Reading
pub mod Placed
pub mod Keyed
pub mod Fine
pub mod Tracking
pub mod Marks
