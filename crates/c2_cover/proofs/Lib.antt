mod BmffTexts
mod CountLemmas
mod KeptCount
mod MergedLemmas
mod MergingSteps
mod PassingLemmas
mod ReadingLemmas
mod StretchLemmas
mod TellingLemmas
pub mod TheLaws
mod ToldLemmas
mod UnreadLemmas
