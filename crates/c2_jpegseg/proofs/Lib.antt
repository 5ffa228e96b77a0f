pub mod Appending
pub mod PlaceRows
pub mod TheLaws
pub mod WrittenPackets
pub mod WrittenRuns
pub mod WrittenStores
