use Rattle.std.proofs.Common.{◌∙◌, ◌∷◌, ◌++◌, [], List, ap, subst, sym, arith}
use Rattle.std.specs.Prelude.{All}
use Rattle.std.specs.List.{list_any}
use Rattle.std.proofs.lemmas.List.Elements.{All-push}
use Rattle.c2_bmff_excluded.specs.Marks.{excludes_any}
use Rattle.c2_bmff.specs.Trails.{IsLevelWithin, level_ahead}
use Rattle.c2_bmff_rows.specs.Rows.{IsRowWithin}
use Rattle.c2_bmff_rows.specs.declared.row.RootBox.{RootBox}
use Rattle.c2_bmff.specs.declared.walking.Level.{Level}
use Rattle.c2_bmff.proofs.walking.first_levels.Goals as goal
use Rattle.c2_lemmas.proofs.Bools.{or_false}

-- the first list of siblings has ahead what all exclusions exclude
pub returns-clause-ahead : goal.returns-clause-ahead
returns-clause-ahead c file i =
    let es = c.args.entries.now in
    let first : Level = record { rows = c.in_ok-rows.rows; next = 0; trails = c.in_ok-trails.trails } in
    ap (list_any (level_ahead file es i))
    (c.in_ok-add_level.ensures ∙ ap (λ (ls : List Level). ls ++ first ∷ []) c.new-levels.ensures.items)
    ∙ or_false (level_ahead file es i first)
    ∙ c.in_ok-trails.ensures file i c.in_ok-rows.rows.items
    ∙ ap (λ (rows : List RootBox). list_any (excludes_any file rows i) es) c.in_ok-rows.ensures

-- and lies where the siblings do
pub returns-clause-within : goal.returns-clause-within
returns-clause-within c len inside =
    let first : Level = record { rows = c.in_ok-rows.rows; next = 0; trails = c.in_ok-trails.trails } in
    subst (All (IsLevelWithin len))
    (sym (c.in_ok-add_level.ensures ∙ ap (λ (ls : List Level). ls ++ first ∷ []) c.new-levels.ensures.items))
    (All-push (IsLevelWithin len) [] first (λ k d lt. absurd (omega (arith, lt))) (subst (All (IsRowWithin len)) (sym c.in_ok-rows.ensures) inside))
