pub mod Building
pub mod InFront
mod Made
mod Meeting
mod OneOutcome
pub mod Order
mod Rows
pub mod Shifts
pub mod SomeOutcome
mod Splits
mod Staying
pub mod TheLaws
mod Unrefused
