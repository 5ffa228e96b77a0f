pub mod Exclusions
pub mod PathTexts
