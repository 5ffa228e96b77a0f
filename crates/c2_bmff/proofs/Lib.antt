mod MatchLemmas
pub mod TheLaws
mod TrailLemmas
