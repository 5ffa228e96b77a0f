use Rattle.std.proofs.Common.{◌≡◌, ◌∙◌, ◌||◌, ◌∷◌, ◌++◌, [], Bool, true, cond, sym, ap}
use Rattle.std.specs.Str.{bytes_eq}
use Rattle.c2_bmff.specs.declared.walking.Trail.{Trail}
use Rattle.c2_bmff.specs.Trails.{ahead, arrives, found, picks}
use Rattle.c2_bmff.proofs.TrailLemmas.{after, pass_own}
use Rattle.c2_bmff.proofs.walking.pass.Goals as goal
use Rattle.c2_lemmas.proofs.Bools.{or_join}

-- what is found in a box that is meant, and what its siblings have, is what they had with it
pub returns-in_ok-arrive : goal.returns-in_ok-arrive
returns-in_ok-arrive c file i rows =
    let es = c.args.entries.now in
    let t = c.args.trail.now in
    let coming = c.past-is_meant.result.1 in
    let own : bytes_eq c.args.row.kind t.step.kind ≡ true =
    ap (λ (x : Trail). bytes_eq c.args.row.kind x.step.kind) (sym c.at.view_is) ∙ sym c.if-eq.ensures in
    let old : Bool = found file es i c.args.row c.args.here.now.items c.args.below.now.items in
    ap (λ (b : Bool). b || ahead file es i rows (after t coming)) (c.in_ok-arrive.ensures file i)
    ∙ or_join old (arrives file es i c.args.row t) (ahead file es i rows (after t coming))
    ∙ ap (λ (b : Bool). old || b)
    (sym (pass_own file es i c.args.row rows t true coming own (λ x xs. ap (λ (y : Trail). picks y.coming (x ∷ xs)) (sym c.at.view_is) ∙ c.past-is_meant.ensures x xs ∙ ap (λ (b : Bool). cond b (x ∷ []) [] ++ picks coming xs) c.if-is_meant.true)))
