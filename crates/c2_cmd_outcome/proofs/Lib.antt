pub mod Replying
