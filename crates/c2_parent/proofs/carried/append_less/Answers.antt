use Rattle.std.proofs.Common.{◌++◌, ◌∙◌, ℕ, List, ap}
use Rattle.c2_spec.specs.Jumbf.Boxes.{AnyBox, any_bytes}
use Rattle.c2_parent.specs.Boxes.{redacted_any}
use Rattle.c2_parent.proofs.Steps.{redacted_is}
use Rattle.c2_parent.proofs.carried.append_less.Goals as goal
use Rattle.c2_lemmas.proofs.Results.{on_ok_then}

-- the box with the index is the manifest
pub returns : goal.returns
returns c =
    on_ok_then c.append_redacted.result
    (λ h manifest e. h ∙ ap (λ (x : List ℕ). c.args.out.now.items ++ x) (ap (λ (b : AnyBox). any_bytes (redacted_any c.args.redactions.now b)) e ∙ redacted_is c.args.redactions.now manifest))
    c.append_redacted.ensures
