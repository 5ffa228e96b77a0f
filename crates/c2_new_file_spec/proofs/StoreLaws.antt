-- The laws of this crate, for the proofs of the crates above it.
use Rattle.c2_new_file_spec.proofs.BuiltLemmas.{fixed_size}
use Rattle.c2_new_file_spec.proofs.ByIndex.{same_manifests}
use Rattle.c2_new_file_spec.proofs.StoreSize.{same_size}
use Rattle.c2_new_file_spec.proofs.Unbound.{bound_meets}
use Rattle.c2_new_file_spec.proofs.WrittenStore.{store_read}
use Rattle.c2_new_file_spec.specs.Built.{StoreSizeIsFixed, StoreSizesAreSame}
use Rattle.c2_new_file_spec.specs.Manifests.{ManifestsAreBoxes}
use Rattle.c2_new_file_spec.specs.Unbound.{BoundFileMeets}
use Rattle.c2_new_file_spec.specs.Written.{NewStoreIsRead}

-- the manifests of a tree are the same, told by the indices of its boxes or by the boxes themselves
pub manifests_are_boxes : ManifestsAreBoxes
manifests_are_boxes = same_manifests

-- the bytes of a new store spell one legal tree, which is a store
pub a_new_store_is_read : NewStoreIsRead
a_new_store_is_read = store_read

-- the length of a new store depends neither on the range in its binding nor on digests
pub a_new_store_has_one_length : StoreSizeIsFixed
a_new_store_has_one_length = fixed_size

-- the length of a new store depends on no more of its binding and message than the binding's label and both lengths
pub new_stores_have_one_length : StoreSizesAreSame
new_stores_have_one_length = same_size

-- a file in which a store is found that meets each rule but the verdict on its message and the one on its binding meets each but verdicts, once the store's binding is met in it
pub a_bound_file_meets_the_rules : BoundFileMeets
a_bound_file_meets_the_rules = bound_meets
