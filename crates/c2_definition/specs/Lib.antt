pub mod DefinitionFile
pub mod Json
pub mod Stages
