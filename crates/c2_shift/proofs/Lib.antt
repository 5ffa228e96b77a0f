mod BoxLemmas
mod Calls
mod Overflows
mod PartLemmas
mod ReadBytes
