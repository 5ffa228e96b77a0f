-- The laws of this crate, for the proofs of the crates above it.
use Rattle.c2_chain_spec.proofs.Joining.{chains_join as chains_join_by, from_roots, to_roots}
use Rattle.c2_chain_spec.proofs.Rooting.{store_rooted}
use Rattle.c2_chain_spec.proofs.Standing.{redacted_decides}
use Rattle.c2_chain_spec.specs.Joined.{ChainsJoin}
use Rattle.c2_chain_spec.specs.Rooted.{RedactionsDecide, RootsDecide, StoreIsRooted}

-- where the manifests have different labels, the tests say what is reached from some places, and what is redacted where these manifests are reached
pub tests_decide_from_roots_reached : RootsDecide
tests_decide_from_roots_reached = λ rs roots m differ. (from_roots rs roots m differ, to_roots rs roots m differ)

-- where the manifests have different labels, the tests say what is reached from some places, and what is redacted where these manifests are reached
pub tests_decide_from_roots_redacted : RedactionsDecide
tests_decide_from_roots_redacted = λ reached rs m label differ. redacted_decides reached rs differ m label

-- the chain of one store is rooted at its last manifest, where all rules but the verdicts hold of its manifests
pub a_store_is_rooted_at_its_last_manifest : StoreIsRooted
a_store_is_rooted_at_its_last_manifest = store_rooted

-- two chains that don't clash join to one
pub chains_join : ChainsJoin
chains_join = chains_join_by
