pub mod Unread
pub mod Written
pub mod Apart
