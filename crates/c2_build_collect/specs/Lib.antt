pub mod Answers
pub mod Steps
pub mod Asked
pub use Rattle.c2_build_collect_base.specs.Errors
pub use Rattle.c2_build_collect_base.specs.Grounds
