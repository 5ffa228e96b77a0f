use Rattle.std.proofs.Common.{◌≡◌, ◌∙◌, Bool, Err, List, ap, length, subst, sym}
use Rattle.std.specs.Prelude.{filter}
use Rattle.c2_collect.specs.declared.error.JoinError.TheVariants.{LabelClash}
use Rattle.c2_collect.specs.Carried.{AreCarried}
use Rattle.c2_collect.specs.Marked.{manifests_in}
use Rattle.c2_collect.proofs.Flags.{none_clash}
use Rattle.c2_collect.proofs.Less.{count_carried, less_behind}
use Rattle.c2_collect.proofs.joining.join_less_into.Goals as goal

-- the first clash
pub returns-in-Err-clause-clash : goal.returns-in-Err-clause-clash
returns-in-Err-clause-clash c i e = let same : c.in-Err.error ≡ LabelClash i = cc (e) in c.in-Err.ensures.clash i (ap Err same)

-- they don't clash
pub returns-clause-apart : goal.returns-clause-apart
returns-clause-apart c = none_clash c.args.old.now c.args.other.now c.in-Ok.carried.items c.in-Ok.ensures.carried

-- the joined boxes less what is redacted
pub returns-clause-joined : goal.returns-clause-joined
returns-clause-joined c =
    let old = c.args.old.now in
    let other = c.args.other.now in
    let carried =
    subst (λ fs. AreCarried old other fs (length (manifests_in other))) (sym c.as_slice-wanted.ensures.value)
    c.in-Ok.ensures.carried in
    less_behind old other c.as_slice-wanted.result.now c.args.redactions.now c.args.out.now.items
    c.append_both_less.new.out.items carried c.in_ok-append_both_less.ensures

-- how many are carried
pub returns-clause-count : goal.returns-clause-count
returns-clause-count c =
    let old = c.args.old.now in
    let other = c.args.other.now in
    count_carried old other c.in-Ok.carried.items c.wanted_count.result c.in-Ok.ensures.carried (c.wanted_count.ensures ∙ ap (λ (fs : List Bool). length (filter (λ b. b) fs)) c.as_slice-wanted.ensures.value)
