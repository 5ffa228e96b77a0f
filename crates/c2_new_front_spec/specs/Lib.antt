pub mod InFront
pub mod Splits
pub mod Fronts
pub mod Meeting
pub mod Order
pub mod Outcomes
pub mod Made
