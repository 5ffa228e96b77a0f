pub mod Costs
pub mod Exact
pub mod Rows
pub mod TheLaws
