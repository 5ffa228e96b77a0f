-- The laws of this crate, for the proofs of the crates above it.
use Rattle.c2_new_content_spec.proofs.Whole.{gathered_reaches, gathered_unbound}
use Rattle.c2_new_content_spec.specs.Gathered.{GatheredStoreMeets, GatheredStoreReaches}

-- a new store whose ingredients are the roots of a chain that it takes over meets each rule but the verdict on its message and the one on its binding, and asks the new question and then those of what is reached from the roots
pub a_gathered_store_meets_the_rules_meets : GatheredStoreMeets
a_gathered_store_meets_the_rules_meets = gathered_unbound

-- a new store whose ingredients are the roots of a chain that it takes over meets each rule but the verdict on its message and the one on its binding, and asks the new question and then those of what is reached from the roots
pub a_gathered_store_meets_the_rules_reaches : GatheredStoreReaches
a_gathered_store_meets_the_rules_reaches = gathered_reaches
