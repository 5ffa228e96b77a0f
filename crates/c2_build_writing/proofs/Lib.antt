pub mod TheLaws
mod Written
