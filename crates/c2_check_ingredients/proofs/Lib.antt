pub mod BoundLemmas
pub mod ChildLemmas
pub mod LabelLemmas
pub mod StandingLemmas
