pub mod BesideLemmas
pub mod PanelLemmas
pub mod SinkLemmas
pub mod SourceLemmas
