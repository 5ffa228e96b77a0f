pub mod MarkLemmas
mod RangeLemmas
pub mod OrderLemmas
pub mod RunLemmas
pub mod WindowLemmas
