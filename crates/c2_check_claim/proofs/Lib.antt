pub mod EntryLemmas
pub mod LabelledLemmas
