mod Causes
mod Drawn
mod Ended
mod Kept
mod NewFile
mod NewStores
mod OneBuild
mod Placed
mod Questioned
mod Rooms
mod Short
mod SomeBuild
pub mod TheLaws
mod Unasked
mod Unrefused
mod Worked
mod WorkedAgain
mod WorkedBmff
mod WorkedOver
mod AtTheEnd
mod Containers
mod Placing
mod Restoring
pub mod RestoredLaws
