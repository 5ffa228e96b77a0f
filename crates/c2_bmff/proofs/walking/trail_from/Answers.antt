use Rattle.std.proofs.Common.{◌≡◌, ◌∙◌, ◌<◌, List, length, Some, refl, sym, ap, subst}
use Rattle.std.specs.List.{slice_get}
use Rattle.std.proofs.lemmas.Bool.{lt-ltb}
use Rattle.std.proofs.lemmas.Option.{slice_get_read}
use Rattle.std.specs.Prelude.{nat_lt}
use Rattle.c2_spec.specs.Bmff.Paths.{PathStep, nth_of}
use Rattle.c2_bmff_excluded.specs.Marks.{SharedPath}
use Rattle.c2_bmff.proofs.TrailLemmas.{of_there, trail_is}
use Rattle.c2_bmff.proofs.walking.trail_from.Goals as goal

-- the trail has what the exclusion's path has from this step on
pub returns-clause-ahead : goal.returns-clause-ahead
returns-clause-ahead c file i rows =
    let e : SharedPath = c.in_ok-exclusion.exclusion.now in
    let s : PathStep = c.in_ok-step.field-0.now in
    let there : slice_get c.args.entries.now c.args.entry ≡ Some e =
    slice_get_read c.args.entries.now (length c.args.entries.now) c.args.entry e refl
    c.in_ok-exclusion.ensures.lookup.3.0 c.in_ok-exclusion.ensures.lookup.1 in
    let path : c.segments.result.now ≡ e.path =
    c.segments.ensures ∙ ap (λ (x : SharedPath). x.path) c.exclusion.view_is in
    let at : slice_get e.path c.args.taken ≡ Some s =
    ap (λ (ss : List PathStep). slice_get ss c.args.taken) (sym path) ∙ slice_get_read c.segments.result.now (length c.segments.result.now) c.args.taken s refl c.in_ok-step.ensures.lookup.3.0 c.in_ok-step.ensures.lookup.1 in
    trail_is file c.args.entries.now i rows c.args.entry c.args.taken e s c.coming_of.result there at
    (λ xs. c.coming_of.ensures xs ∙ ap (λ (p : PathStep). nth_of p.nth xs) c.step.view_is)

-- where there is a trail, there is a step
pub returns-clause-more : goal.returns-clause-more
returns-clause-more c =
    let e : SharedPath = c.in_ok-exclusion.exclusion.now in
    let there : slice_get c.args.entries.now c.args.entry ≡ Some e =
    slice_get_read c.args.entries.now (length c.args.entries.now) c.args.entry e refl
    c.in_ok-exclusion.ensures.lookup.3.0 c.in_ok-exclusion.ensures.lookup.1 in
    let path : c.segments.result.now ≡ e.path =
    c.segments.ensures ∙ ap (λ (x : SharedPath). x.path) c.exclusion.view_is in
    of_there c.args.entries.now c.args.entry e (λ (x : SharedPath). nat_lt c.args.taken (length x.path)) there
    ∙ lt-ltb c.args.taken (length e.path)
    (subst (λ (ss : List PathStep). c.args.taken < length ss) path c.in_ok-step.ensures.lookup.3.0)
