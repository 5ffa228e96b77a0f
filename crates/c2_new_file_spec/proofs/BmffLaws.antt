-- The laws of this crate, for the proofs of the crates above it.
use Rattle.c2_new_file_spec.proofs.Building.{bmff_base, bmff_fixed}
use Rattle.c2_new_file_spec.proofs.Items.{binding_len}
use Rattle.c2_new_file_spec.specs.Films.{BindingHasOneLength, BmffBaseIsItsBase, BmffSizeIsFixed}

-- the binding of a new BMFF file has 108 bytes and those of its digest
pub a_new_bmff_store_has_one_length_binding : BindingHasOneLength
a_new_bmff_store_has_one_length_binding = binding_len

-- the binding of a new BMFF file has 108 bytes and those of its digest
pub a_new_bmff_store_has_one_length_store : BmffSizeIsFixed
a_new_bmff_store_has_one_length_store = bmff_fixed

-- the base of a built file is what another store would be built over
pub a_built_bmff_has_its_base : BmffBaseIsItsBase
a_built_bmff_has_its_base = bmff_base
