pub mod Answering
pub mod Ending
pub mod Files
pub mod Hearing
