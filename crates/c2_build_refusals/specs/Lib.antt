pub mod Kinds
pub mod Refusals
pub mod Stages
pub mod Sinks
pub mod InsertPoints
