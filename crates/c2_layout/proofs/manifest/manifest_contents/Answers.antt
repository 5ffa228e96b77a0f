use Rattle.std.proofs.Common.{◌∙◌}
use Rattle.std.proofs.lemmas.Result.{err_from_is_err_and}
use Rattle.c2_layout.proofs.UnwrittenLemmas.{assertions_refused, claim_refused, signature_refused}
use Rattle.c2_layout.proofs.WrittenBytes.{contents_are}
use Rattle.c2_layout.proofs.manifest.manifest_contents.Goals as goal

pub returns-in_err-assertions-clause-err : goal.returns-in_err-assertions-clause-err
returns-in_err-assertions-clause-err c =
    let p = err_from_is_err_and c.from_residual.result c.from_residual.ensures.1 in
    rw (p.1, p.2) (λ label.
    assertions_refused label c.args.boxes.now c.args.claim.now c.args.message.now c.in_err-assertions.field-0.0
    c.in_err-assertions.ensures.err)

pub returns-in_err-claim-clause-err : goal.returns-in_err-claim-clause-err
returns-in_err-claim-clause-err c =
    let p = err_from_is_err_and c.from_residual-in_err-claim.result c.from_residual-in_err-claim.ensures.1 in
    rw (p.1, p.2) (λ label.
    claim_refused label c.args.boxes.now c.args.claim.now c.args.message.now c.in_err-claim.field-0.0
    c.in_err-claim.ensures.err)

pub returns-in_err-signature-clause-err : goal.returns-in_err-signature-clause-err
returns-in_err-signature-clause-err c =
    let p = err_from_is_err_and c.from_residual-in_err-signature.result c.from_residual-in_err-signature.ensures.1 in
    rw (p.1, p.2) (λ label.
    signature_refused label c.args.boxes.now c.args.claim.now c.args.message.now c.in_err-signature.field-0.0
    c.in_err-signature.ensures.err)

pub returns-clause-bytes : goal.returns-clause-bytes
returns-clause-bytes c =
    contents_are c.args.boxes.now c.args.claim.now c.args.message.now c.type_uuid.result _ _ _ _ c.type_uuid.ensures
    (c.as_slice.ensures.value ∙ c.in_ok-assertions.ensures.ok.0) (c.as_slice-2.ensures.value ∙ c.in_ok-claim.ensures.ok)
    (c.as_slice-3.ensures.value ∙ c.in_ok-signature.ensures.ok) c.in_ok-contents.ensures
