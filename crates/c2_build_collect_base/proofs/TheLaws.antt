-- The laws of this crate, for the proofs of the crates above it.
use Rattle.c2_build_collect_base.proofs.Told.{no_faults, tells}
use Rattle.c2_build_collect_base.specs.Errors.{ErrorsAreNoFaults, ErrorsTellRefusals}

-- each refusal of a build that collects has an error of its own, which says something of the inputs
pub each_collect_refusal_has_its_error_tell : ErrorsTellRefusals
each_collect_refusal_has_its_error_tell = tells

-- each refusal of a build that collects has an error of its own, which says something of the inputs
pub each_collect_refusal_has_its_error_no_faults : ErrorsAreNoFaults
each_collect_refusal_has_its_error_no_faults = no_faults
