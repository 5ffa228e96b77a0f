pub mod Judges
pub mod Reading
