pub mod Gathering
pub mod Picking
pub mod Refusing
pub mod TheLaws
