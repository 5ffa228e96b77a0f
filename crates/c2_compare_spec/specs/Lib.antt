-- What the active claim of an accepted file binds, and what two files come to when they are compared. Read
-- in this order.
pub mod ChainContent
pub mod Accepted
pub mod Evidence
pub mod Differences
pub mod Lists
pub mod Correspondence
pub mod Deciding
pub mod EvidenceText
pub mod Comparison
