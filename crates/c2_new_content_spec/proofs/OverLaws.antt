-- The laws of this crate, for the proofs of the crates above it.
use Rattle.c2_new_content_spec.proofs.Approved.{valid_approved}
use Rattle.c2_new_content_spec.proofs.OverWhole.{over_last}
use Rattle.c2_new_content_spec.specs.Over.{SucceedingStoreMeets, ValidIsApproved}

-- a new store that takes over older manifests meets each rule but the verdict on its message and the one on its binding, whichever the binding is, and asks the new question and then those of the older manifests
pub a_succeeding_store_meets_the_rules : SucceedingStoreMeets
a_succeeding_store_meets_the_rules = over_last

-- the judges who find a store valid approve each of its questions
pub a_valid_store_is_approved : ValidIsApproved
a_valid_store_is_approved = valid_approved
