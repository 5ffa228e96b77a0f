pub mod BoxThere
pub mod Faults
pub mod HeldLemmas
pub mod Lists
pub mod PathRows
pub mod StandLemmas
pub mod TheLaws
