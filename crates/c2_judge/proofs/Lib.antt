pub mod Digits
pub mod EachFile
pub mod Lines
pub mod Lists
pub mod OneReading
pub mod PanelSteps
pub mod RowSteps
pub mod TheLaws
