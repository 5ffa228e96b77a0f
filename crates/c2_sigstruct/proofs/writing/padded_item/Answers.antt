use Rattle.std.proofs.Common.{ap, ◌∙◌}
use Rattle.std.proofs.lemmas.Result.{IfOk-weaker}
use Rattle.c2_spec.specs.C2pa.Sign1.{parts_of}
use Rattle.c2_sigstruct.proofs.Padding.{with_header}
use Rattle.c2_sigstruct.proofs.writing.padded_item.Goals as goal

-- its header is the padded one
pub returns : goal.returns
returns c =
    IfOk-weaker c.tagged_item.result _ _
    (λ x h. h ∙ ap (with_header (parts_of c.args.sign.now)) c.in_ok-header.ensures) c.tagged_item.ensures
