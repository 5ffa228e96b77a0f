-- The parts of a C2PA manifest store (C2PA Technical Specification 2.x): URIs, assertions, claims, signed messages, and the
-- manifests of a box tree. Read in this order.
pub mod Uri
pub mod Assertion
pub mod Claim
pub mod Sign1
pub mod Message
pub mod Manifest
