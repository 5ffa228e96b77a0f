pub mod EvidenceLines
pub mod Leaving
pub mod TextLines
pub mod Written
