pub mod DigestLemmas
pub mod FactLemmas
pub mod PlaceLemmas
