pub mod Joining
pub mod Places
pub mod Rooting
pub mod Seeing
pub mod Standing
pub mod ChainLaws
pub mod OlderRules
pub mod OlderLaws
