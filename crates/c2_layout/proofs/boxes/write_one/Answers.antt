use Rattle.std.proofs.Common.{ap, length, ◌∙◌, arith}
use Rattle.std.proofs.lemmas.Result.{IfOk-weaker, IfErr-weaker}
use Rattle.c2_layout.proofs.UnwrittenLemmas.{box_refused}
use Rattle.c2_layout.proofs.WrittenBytes.{one_bytes}
use Rattle.c2_layout.proofs.boxes.write_one.Goals as goal

pub returns-clause-ok : goal.returns-clause-ok
returns-clause-ok c =
    IfOk-weaker c.write_super.result _ _
    (λ b h. h.0 ∙ one_bytes c.args.name c.args.label.now c.args.kind c.args.bytes.now c.as_slice.result.now c.type_uuid.result
    (c.as_slice.ensures.value ∙ c.in_ok-content.ensures.ok.0) c.type_uuid.ensures)
    c.write_super.ensures.ok

pub returns-clause-err : goal.returns-clause-err
returns-clause-err c =
    IfErr-weaker c.write_super.result _ _
    (λ e h. box_refused c.args.label.now c.as_slice.result.now (length c.args.bytes.now) e c.in_ok-content.ensures.ok.1
    (omega (arith, ap length (c.as_slice.ensures.value ∙ c.in_ok-content.ensures.ok.0))) h)
    c.write_super.ensures.err
