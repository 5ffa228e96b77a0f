mod Builds
mod Checking
mod EachSample
mod Faultless
mod MadeBytes
mod Making
mod MediaLengths
mod OneSample
pub mod TheLaws
mod WorkedDefinition
