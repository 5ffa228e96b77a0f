pub mod AllBoxed
pub mod ClaimFields
pub mod Contents
mod LegalClaims
pub mod References
pub mod Sizes
pub mod TheLaws
pub mod UnwrittenLemmas
pub mod WrittenBytes
