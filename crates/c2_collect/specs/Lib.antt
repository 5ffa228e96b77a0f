pub mod Marked
pub mod Carried
pub mod MarkedCode
