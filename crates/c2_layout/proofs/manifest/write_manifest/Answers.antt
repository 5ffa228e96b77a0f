use Rattle.std.proofs.Common.{ap, length, ◌∙◌}
use Rattle.std.proofs.lemmas.Result.{IfOk-weaker, IfErr-weaker, err_from_is_err_and}
use Rattle.c2_layout.proofs.UnwrittenLemmas.{manifest_refused}
use Rattle.c2_layout.proofs.WrittenBytes.{manifest_bytes, manifest_len, super_len}
use Rattle.c2_layout.proofs.manifest.write_manifest.Goals as goal

pub returns-in_err-contents-clause-err : goal.returns-in_err-contents-clause-err
returns-in_err-contents-clause-err c =
    let p = err_from_is_err_and c.from_residual.result c.from_residual.ensures.1 in
    rw (p.1, p.2) (c.in_err-contents.ensures.err c.args.label.now)

pub returns-clause-ok : goal.returns-clause-ok
returns-clause-ok c = λ assertions is.
    IfOk-weaker c.write_super.result _ _
    (λ b h. h.0 ∙ manifest_bytes c.args.label.now c.args.boxes.now c.args.claim.now c.args.message.now c.as_slice.result.now c.type_uuid.result assertions is
    (c.as_slice.ensures.value ∙ c.in_ok-contents.ensures.bytes) c.type_uuid.ensures)
    c.write_super.ensures.ok

pub returns-clause-size : goal.returns-clause-size
returns-clause-size c =
    IfOk-weaker c.write_super.result _ _
    (λ b h. ap length h.0 ∙ super_len c.type_uuid.result c.args.label.now c.as_slice.result.now (ap length c.type_uuid.ensures)
    ∙ manifest_len c.args.label.now c.args.boxes.now c.args.claim.now c.args.message.now c.as_slice.result.now
    (c.as_slice.ensures.value ∙ c.in_ok-contents.ensures.bytes))
    c.write_super.ensures.ok

pub returns-clause-err : goal.returns-clause-err
returns-clause-err c =
    IfErr-weaker c.write_super.result _ _
    (λ e h. manifest_refused c.args.label.now c.as_slice.result.now c.args.boxes.now c.args.claim.now c.args.message.now e
    (manifest_len c.args.label.now c.args.boxes.now c.args.claim.now c.args.message.now c.as_slice.result.now (c.as_slice.ensures.value ∙ c.in_ok-contents.ensures.bytes))
    h)
    c.write_super.ensures.err
