use Rattle.std.proofs.Common.{◌≡◌, ◌∙◌, ◌||◌, Bool, true, false, List, sym, ap}
use Rattle.std.specs.List.{list_any}
use Rattle.c2_spec.specs.Bmff.Paths.{is_entered}
use Rattle.c2_bmff_rows.specs.Children.{kids}
use Rattle.c2_bmff.specs.Trails.{ahead, found, from_step, has_step, through}
use Rattle.c2_bmff.specs.declared.walking.Trail.{Trail}
use Rattle.c2_bmff_rows.proofs.Lists.{any_append}
use Rattle.c2_bmff.proofs.TrailLemmas.{arrive_on, arrive_stops}
use Rattle.c2_bmff.proofs.walking.arrive.Goals as goal
use Rattle.c2_lemmas.proofs.Bools.{or_false, or_join}

-- where the path enters the box, its next step is taken among the children
pub returns-in_ok-push-2 : goal.returns-in_ok-push-2
returns-in_ok-push-2 c file i =
    let es = c.args.entries.now in
    let enters : is_entered c.args.at.step.kind ≡ true =
    ap (λ (t : Trail). is_entered t.step.kind) (sym c.at.view_is) ∙ sym c.enters.ensures ∙ c.if-enters.true in
    let more : has_step es c.args.at.entry c.args.at.taken ≡ true =
    ap (λ (t : Trail). has_step es t.entry t.taken) (sym c.at.view_is) ∙ c.in-Some.ensures.more in
    let here : Bool = list_any (through file es i c.args.row) c.args.here.now.items in
    let below : Bool = list_any (ahead file es i (kids file c.args.row)) c.args.below.now.items in
    ap (λ (ts : List Trail). here || list_any (ahead file es i (kids file c.args.row)) ts) c.in_ok-push-2.ensures.items
    ∙ ap (λ (b : Bool). here || b) (any_append (ahead file es i (kids file c.args.row)) c.args.below.now.items c.in-Some.next)
    ∙ sym (or_join here below (ahead file es i (kids file c.args.row) c.in-Some.next))
    ∙ ap (λ (b : Bool). (here || below) || b) (c.in-Some.ensures.ahead file i (kids file c.args.row) ∙ ap (λ (t : Trail). from_step file es i (kids file c.args.row) t.entry t.taken) c.at.view_is ∙ sym (arrive_on file es i c.args.row c.args.at more enters))

-- where the box isn't entered, nothing is below it
pub returns-else-enters : goal.returns-else-enters
returns-else-enters c file i =
    let es = c.args.entries.now in
    let other : is_entered c.args.at.step.kind ≡ false =
    ap (λ (t : Trail). is_entered t.step.kind) (sym c.at.view_is) ∙ sym c.enters.ensures ∙ c.if-enters.false in
    let more : has_step es c.args.at.entry c.args.at.taken ≡ true =
    ap (λ (t : Trail). has_step es t.entry t.taken) (sym c.at.view_is) ∙ c.in-Some.ensures.more in
    let old : Bool = found file es i c.args.row c.args.here.now.items c.args.below.now.items in
    sym (ap (λ (b : Bool). old || b) (arrive_stops file es i c.args.row c.args.at more other) ∙ or_false old)
