use Rattle.std.proofs.Common.{subst, ◌∙◌}
use Rattle.c2_cbor.specs.Earlier.{IsFirstFault}
use Rattle.c2_cbor_spec.specs.Tracking.{first_equal}
use Rattle.c2_cbor.proofs.read.first_fault_after.Goals as goal

pub returns-in-Ok : goal.returns-in-Ok
returns-in-Ok c =
    subst (λ ps. IsFirstFault (first_equal ps) c.args.places.now c.args.fault c.first_fault.result)
    (c.as_slice.ensures.value ∙ c.in-Ok.ensures) c.first_fault.ensures
