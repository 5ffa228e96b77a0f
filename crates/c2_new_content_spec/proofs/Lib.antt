pub mod Bindings
pub mod Boxes
pub mod Claims
pub mod Items
pub mod Less
pub mod More
pub mod NewRules
pub mod Older
pub mod Plain
pub mod Roots
pub mod ContentLaws
pub mod Uris
pub mod Whole
pub mod Approved
mod SecondRows
pub mod OverLaws
pub mod OverWhole
mod Bound
mod SplitBoxes
mod Built
mod Contents
mod Frames
mod Holding
mod InPlace
mod Kept
mod Meeting
mod Places
mod Refusals
mod SplitRoots
mod Segments
mod Texts
pub mod SplitLaws
