use Rattle.std.proofs.Common.{◌∙◌, ◌||◌, List, Bool, ap, sym}
use Rattle.std.specs.List.{list_any}
use Rattle.c2_base.specs.declared.values.Range.{Range}
use Rattle.c2_spec.specs.Cover.{is_excluded}
use Rattle.c2_bmff.specs.Trails.{through}
use Rattle.c2_bmff.proofs.TrailLemmas.{whole_same}
use Rattle.c2_bmff.proofs.walking.mark_here.Goals as goal
use Rattle.c2_lemmas.proofs.Bools.{or_false}

-- joined, the box's ranges hold what the exclusions exclude through it
pub returns-clause-same : goal.returns-clause-same
returns-clause-same g c file known i =
    c.in_ok-add_sorted.ensures.same i
    ∙ ap (λ (b : Bool). is_excluded c.args.marking.now.ranges.items i || b)
    (c.in-Ok.ensures.same file known i ∙ ap (λ (rs : List Range). is_excluded rs i || list_any (through file c.args.entries.now i c.args.row) c.args.here.now) c.new-own.ensures.items)

-- where the ranges hold the box whole, the exclusions add nothing
pub returns-then-is_whole-clause-same : goal.returns-then-is_whole-clause-same
returns-then-is_whole-clause-same g c file known i =
    let before : Bool = is_excluded c.args.marking.now.ranges.items i in
    whole_same file c.args.entries.now i c.args.row c.args.here.now 0 before before
    (λ inside. ap (λ (rs : List Range). is_excluded rs i) (sym c.deref.ensures.value) ∙ c.is_whole.ensures.holds c.if-is_whole.true i inside)
    (sym (or_false before))
