mod Making
pub mod TheLaws
