use Rattle.std.proofs.Common.{◌≡◌, ℕ, Err, ap}
use Rattle.c2_collect_spec.specs.Sides.{ClashFirst}
use Rattle.c2_collect.specs.declared.error.JoinError.TheVariants.{LabelClash}
use Rattle.c2_collect.specs.Carried.{StoresClash}
use Rattle.c2_collect.specs.Marked.{is_marked, manifests_in, marked}
use Rattle.c2_collect.proofs.Flags.{at_stores}
use Rattle.c2_collect.proofs.joining.join.Goals as goal

-- they don't clash
pub returns-in-Ok-clause-apart : goal.returns-in-Ok-clause-apart
returns-in-Ok-clause-apart c =
    at_stores (λ v w. (i : ℕ) → StoresClash v w i → ⊥) c.new-ours.result c.new-theirs.result
    (marked c.args.old.now c.args.old_reached.now) (marked c.args.other.now c.args.other_reached.now)
    c.new-ours.ensures c.new-theirs.ensures c.in-Ok.ensures.apart

-- the first clash
pub returns-in-Err-clause-clash : goal.returns-in-Err-clause-clash
returns-in-Err-clause-clash c i e =
    let same : c.in-Err.error ≡ LabelClash i = cc (e) in
    at_stores (λ v w. ClashFirst (manifests_in v) (is_marked v) (manifests_in w) (is_marked w) i) c.new-ours.result
    c.new-theirs.result (marked c.args.old.now c.args.old_reached.now)
    (marked c.args.other.now c.args.other_reached.now)
    c.new-ours.ensures c.new-theirs.ensures (c.in-Err.ensures.clash i (ap Err same))
