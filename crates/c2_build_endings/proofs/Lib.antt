pub mod SourcesLemmas
