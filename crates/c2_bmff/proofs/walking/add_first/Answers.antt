use Rattle.std.proofs.Common.{◌∙◌, ◌||◌, Bool, sym, ap}
use Rattle.std.specs.List.{list_any}
use Rattle.c2_bmff.specs.Trails.{ahead}
use Rattle.c2_bmff_rows.proofs.Lists.{any_append}
use Rattle.c2_bmff.proofs.TrailLemmas.{first_step, no_step}
use Rattle.c2_bmff.proofs.walking.add_first.Goals as goal
use Rattle.c2_lemmas.proofs.Bools.{or_false}

-- the trail before the first step has what the exclusion has
pub returns-in_ok-push : goal.returns-in_ok-push
returns-in_ok-push c file i rows =
    let es = c.args.entries.now in
    let old : Bool = list_any (ahead file es i rows) c.args.trails.now.items in
    ap (list_any (ahead file es i rows)) c.in_ok-push.ensures.items ∙ any_append (ahead file es i rows) c.args.trails.now.items c.in-Some.first
    ∙ ap (λ (b : Bool). old || b) (c.in-Some.ensures.ahead file i rows ∙ first_step file es i rows c.args.k c.requires)

-- an exclusion whose path has no step excludes nothing
pub returns-in_default : goal.returns-in_default
returns-in_default c file i rows =
    let old : Bool = list_any (ahead file c.args.entries.now i rows) c.args.trails.now.items in
    sym
    (ap (λ (b : Bool). old || b) (no_step file c.args.entries.now i rows c.args.k c.requires c.in_default.ensures.more) ∙ or_false old)
