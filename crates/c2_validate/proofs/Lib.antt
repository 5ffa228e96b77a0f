mod ChainLemmas
mod CheckLemmas
mod CountLemmas
mod EachCheck
mod ExternalLemmas
mod FileLemmas
mod OneCheck
mod OneExternal
pub mod TheLaws
