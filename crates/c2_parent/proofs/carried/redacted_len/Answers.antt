use Rattle.std.proofs.Common.{◌∙◌, List, ℕ, ap, length}
use Rattle.c2_spec.specs.Jumbf.Boxes.{AnyBox, any_bytes, box_at}
use Rattle.c2_parent.specs.Boxes.{redacted_any}
use Rattle.c2_parent.proofs.CarriedLemmas.{redacted_named}
use Rattle.c2_parent.proofs.carried.redacted_len.Goals as goal

pub returns : goal.returns
returns c =
    let b = (box_at c.args.tree.now c.args.i).box in
    c.thinned_len.ensures
    ∙ ap (λ (x : AnyBox). length (any_bytes x))
    (redacted_named c.redactions.inside.texts.now c.redactions.inside.named b c.redactions.invariant)
    ∙ ap (λ (r : List (List ℕ)). length (any_bytes (redacted_any r b))) c.redactions.view_is
