use Rattle.std.proofs.Common.{◌≡◌, Err, ap, length, subst, sym}
use Rattle.c2_collect.specs.declared.error.JoinError.TheVariants.{LabelClash}
use Rattle.c2_collect.specs.Carried.{AreCarried}
use Rattle.c2_collect.specs.Marked.{manifests_in}
use Rattle.c2_collect.proofs.Flags.{joined_behind, none_clash}
use Rattle.c2_collect.proofs.joining.join_into.Goals as goal

-- the first clash
pub returns-in-Err-clause-clash : goal.returns-in-Err-clause-clash
returns-in-Err-clause-clash c i e = let same : c.in-Err.error ≡ LabelClash i = cc (e) in c.in-Err.ensures.clash i (ap Err same)

-- they don't clash
pub returns-clause-apart : goal.returns-clause-apart
returns-clause-apart c = none_clash c.args.old.now c.args.other.now c.in-Ok.carried.items c.in-Ok.ensures.carried

-- the joined boxes
pub returns-clause-joined : goal.returns-clause-joined
returns-clause-joined c =
    let old = c.args.old.now in
    let other = c.args.other.now in
    let carried =
    subst (λ fs. AreCarried old other fs (length (manifests_in other))) (sym c.deref.ensures.value)
    c.in-Ok.ensures.carried in
    joined_behind old other c.deref.result.now c.args.out.now.items c.boxes.result.now c.append_with.new.out.items
    c.boxes.ensures carried c.in_ok-append_with.ensures
