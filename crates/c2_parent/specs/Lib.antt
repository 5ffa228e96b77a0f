pub mod Boxes
pub mod Named
pub mod Parents
pub mod Refused
pub mod Both
