mod Clearings
mod Cuts
mod FreedBoxes
mod Frees
mod LeftRows
mod Outcomes
mod Regions
