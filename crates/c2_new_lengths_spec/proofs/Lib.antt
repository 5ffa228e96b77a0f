pub mod ContentLengths
pub mod DefinitionLengths
pub mod ItemLengths
pub mod JsonLengths
pub mod StoreLengths
pub mod TheLaws
