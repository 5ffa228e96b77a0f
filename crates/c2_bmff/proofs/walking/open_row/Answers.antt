use Rattle.std.proofs.Common.{◌∙◌, ◌||◌, List, subst, sym, ap, arith}
use Rattle.std.specs.Prelude.{All}
use Rattle.std.specs.List.{list_any}
use Rattle.std.proofs.lemmas.List.Elements.{All-push}
use Rattle.std.proofs.lemmas.List.Sums.{sum_by-append}
use Rattle.c2_bmff.specs.Trails.{IsLevelWithin, ahead, level_ahead, level_left, levels_left}
use Rattle.c2_bmff.specs.declared.walking.Level.{Level}
use Rattle.c2_bmff_rows.specs.declared.row.RootBox.{RootBox}
use Rattle.c2_bmff_rows.proofs.Lists.{any_append}
use Rattle.c2_bmff.proofs.walking.open_row.Goals as goal

-- the trails go on in the children
pub returns-clause-ahead : goal.returns-clause-ahead
returns-clause-ahead g c file known es i =
    let old : List Level = c.args.levels.now.items in
    ap (list_any (level_ahead file es i)) c.in_ok-add_level.ensures ∙ any_append (level_ahead file es i) old _
    ∙ ap (λ (rows : List RootBox). list_any (level_ahead file es i) old || list_any (ahead file es i rows) c.args.below.items)
    (c.in-Ok.ensures.rows file known)

-- the children lie inside the source
pub returns-clause-levels : goal.returns-clause-levels
returns-clause-levels g c =
    let len = g.S.Source.len c.args.source.now in
    subst (All (IsLevelWithin len)) (sym c.in_ok-add_level.ensures)
    (All-push (IsLevelWithin len) c.args.levels.now.items _ c.requires.levels c.in-Ok.ensures.within)

-- they have fewer bytes than the box, which has a header
pub returns-clause-left : goal.returns-clause-left
returns-clause-left g c =
    let added =
    ap levels_left c.in_ok-add_level.ensures ∙ sum_by-append level_left c.args.levels.now.items _ in
    omega (arith, added, c.in-Ok.ensures.total, c.requires.inside.2)
