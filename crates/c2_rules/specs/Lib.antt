-- What a file's store is read as, the check list over it, and what judges are asked. Read in this order.
pub mod Opened
pub mod Ingredients
pub mod Questions
pub mod Asking
pub mod Tests
pub mod Codes
pub mod Readings
pub mod Claims
pub mod Chains
pub mod BoxPlaces
pub mod Seen
pub mod Rules
pub mod Binding
pub mod CheckList
pub mod Validated
