pub mod Laws
pub mod Outcomes
pub mod Writing
pub use Rattle.c2_build_plain.specs.Building
pub use Rattle.c2_build_plain.specs.Meeting
pub use Rattle.c2_build_plain.specs.Restored
pub use Rattle.c2_sample.specs.Sample
