pub mod Laws
pub mod Outcomes
pub mod Writing
pub use Rattle.c2_build_collect.specs.Answers
pub use Rattle.c2_build_collect.specs.Grounds
