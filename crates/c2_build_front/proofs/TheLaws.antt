-- The laws of this crate, for the proofs of the crates above it.
use Rattle.c2_build_front.proofs.Told.{no_faults, only, tells}
use Rattle.c2_build_front.specs.Answers.{ErrorsAreOfRefusals}
use Rattle.c2_build_front.specs.Errors.{ErrorsAreNoFaults, ErrorsTellRefusals}

-- each refusal of a build in front of a BMFF file has an error of its own, which says something of the inputs
pub each_front_refusal_has_its_error_tell : ErrorsTellRefusals
each_front_refusal_has_its_error_tell = tells

-- each refusal of a build in front of a BMFF file has an error of its own, which says something of the inputs
pub each_front_refusal_has_its_error_no_faults : ErrorsAreNoFaults
each_front_refusal_has_its_error_no_faults = no_faults

-- each refusal of a build in front of a BMFF file has an error of its own, which says something of the inputs
pub each_front_refusal_has_its_error_only : ErrorsAreOfRefusals
each_front_refusal_has_its_error_only = only
