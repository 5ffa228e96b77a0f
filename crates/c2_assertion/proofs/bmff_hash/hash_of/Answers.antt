use Rattle.std.proofs.Common.{◌∙◌, Option, ap, sym}
use Rattle.c2_spec.specs.Bmff.Hash.{BmffHash}
use Rattle.c2_spec.specs.Cbor.View.{view}
use Rattle.c2_spec.specs.declared.assertion.FieldError.{FieldError}
use Rattle.c2_assertion.specs.Reading.{exclusions_fault, unless_fault}
use Rattle.c2_assertion.proofs.bmff_hash.hash_of.Goals as goal

-- the first fault refuses the hash
pub returns-in-Some : goal.returns-in-Some
returns-in-Some c =
    let h : BmffHash =
    record { exclusions = c.args.exclusions; alg = c.args.digest.alg; hash = c.args.digest.hash } in
    ap (λ (o : Option FieldError). unless_fault o h)
    (sym c.in-Some.is ∙ c.fault_of.ensures ∙ ap (exclusions_fault (view c.args.item.now)) c.as_slice.ensures)

-- without one the hash is read
pub returns-in-None : goal.returns-in-None
returns-in-None c =
    let h : BmffHash =
    record { exclusions = c.args.exclusions; alg = c.args.digest.alg; hash = c.args.digest.hash } in
    ap (λ (o : Option FieldError). unless_fault o h)
    (sym c.in-None.is ∙ c.fault_of.ensures ∙ ap (exclusions_fault (view c.args.item.now)) c.as_slice.ensures)
