-- The laws of this crate, for the proofs of the crates above it.
use Rattle.c2_build_refusals.proofs.FirstRefusal.{refusal_is_least}
use Rattle.c2_build_refusals.specs.Refusals.{FirstRefusalIsLeast}

-- what a list of tests answers is the refusal of the first test that fails, and there is none where every test passes
pub the_first_refusal_is_the_least : FirstRefusalIsLeast
the_first_refusal_is_the_least = refusal_is_least
