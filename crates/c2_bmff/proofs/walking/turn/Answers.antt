use Rattle.std.proofs.Common.{◌≡◌, ◌∙◌, ◌||◌, ◌∷◌, ◌++◌, [], ◌+◌, ◌*◌, ◌<◌, ℕ, Bool, List, length, take, drop, subst, sym, ap, arith}
use Rattle.std.specs.Prelude.{All}
use Rattle.std.specs.List.{list_any}
use Rattle.std.proofs.lemmas.List.{drop_all, drop_more, take-append-le, take_all}
use Rattle.std.proofs.lemmas.List.Elements.{All-push}
use Rattle.std.proofs.lemmas.List.Sums.{sum_by-append}
use Rattle.c2_base.proofs.Written.{source_stays}
use Rattle.c2_bmff_boxes.specs.Causes.{IsBmffCaused}
use Rattle.c2_bmff_boxes.specs.Children.{rows_len}
use Rattle.c2_bmff_rows.specs.Rows.{IsRowWithin}
use Rattle.c2_spec.specs.Cover.{is_excluded}
use Rattle.c2_bmff_rows.specs.Children.{kids}
use Rattle.c2_bmff.specs.Trails.{IsLevelWithin, ahead, level_ahead, level_left, levels_left}
use Rattle.c2_bmff_rows.specs.declared.row.RootBox.{RootBox}
use Rattle.c2_bmff.specs.declared.walking.Trail.{Trail}
use Rattle.c2_bmff_rows.proofs.Lists.{any_append}
use Rattle.c2_bmff.proofs.TrailLemmas.{level_none, turn_joins}
use Rattle.c2_bmff.proofs.walking.turn.Goals as goal
use Rattle.c2_lemmas.proofs.Bools.{or_false}

-- a list of siblings that were all visited has nothing ahead
pub returns-then-next-len-clause-same : goal.returns-then-next-len-clause-same
returns-then-next-len-clause-same g c file known i =
    let es = c.args.entries.now in
    let l = c.args.level in
    let others : Bool = list_any (level_ahead file es i) c.args.levels.now.items in
    sym
    (ap (λ (b : Bool). is_excluded c.args.marking.now.ranges.items i || b) (ap (λ (b : Bool). others || b) (level_none file es i (drop l.next l.rows.items) l.trails.items (drop_all l.next l.rows.items (omega (arith, c.if-next-len.true, c.len.ensures)))) ∙ or_false others))

-- the rows of this list lie inside the source as before
pub open_row-requires-clause-levels : goal.open_row-requires-clause-levels
open_row-requires-clause-levels g c =
    subst (λ (n : ℕ). All (IsLevelWithin n) c.add_level.new.levels.items) (sym c.in-Ok.ensures.stays.same_len)
    (subst (All (IsLevelWithin (g.S.Source.len c.args.source.now))) (sym c.in_ok-add_level.ensures) (All-push (IsLevelWithin (g.S.Source.len c.args.source.now)) c.args.levels.now.items _ c.requires.levels c.requires.inside))

-- what is marked in the box, with what is ahead below it, beside it and in the other lists, is what was ahead
pub returns-in-Ok-open_row-clause-same : goal.returns-in-Ok-open_row-clause-same
returns-in-Ok-open_row-clause-same g c file known i =
    let es = c.args.entries.now in
    let rows : List RootBox = c.args.level.rows.items in
    let next : ℕ = c.args.level.next in
    let row : RootBox = c.index-row.result.now in
    let first : drop next rows ≡ row ∷ drop (next + 1) rows =
    drop_more rows next row (omega (arith, c.if-next-len.false, c.len.ensures))
    ∙ ap (λ (r : RootBox). r ∷ drop (next + 1) rows) (sym c.index-row.ensures) in
    let others : Bool = list_any (level_ahead file es i) c.args.levels.now.items in
    let below : Bool = list_any (ahead file es i (kids file row)) c.in-Ok.below.items in
    let beside : Bool = list_any (ahead file es i (drop (next + 1) rows)) c.visit.new.trails in
    let after : Bool = is_excluded c.visit.new.marking.ranges.items i in
    let same : length c.visit.new.trails ≡ c.args.level.trails.len = c.visit.auto.trails ∙ c.deref_mut.ensures.len in
    let written : take c.args.level.trails.len (c.visit.new.trails ++ drop (length c.visit.new.trails) c.args.level.trails.items) ≡ c.visit.new.trails =
    take-append-le c.args.level.trails.len c.visit.new.trails (drop (length c.visit.new.trails) c.args.level.trails.items) (omega (arith, same)) ∙ take_all c.args.level.trails.len c.visit.new.trails (omega (arith, same)) in
    ap (λ (b : Bool). after || b)
    (c.in-Ok-open_row.ensures.ahead file (c.in-Ok.ensures.stays.same_bytes ∙ known) es i ∙ ap (λ (b : Bool). b || below) (ap (list_any (level_ahead file es i)) c.in_ok-add_level.ensures ∙ any_append (level_ahead file es i) c.args.levels.now.items _))
    ∙ ap (λ (ts : List Trail). after || ((others || list_any (ahead file es i (drop (next + 1) rows)) ts) || below))
    written
    ∙ turn_joins after (is_excluded c.args.marking.now.ranges.items i) others beside below
    (level_ahead file es i c.args.level)
    (c.in-Ok.ensures.same file known i (drop (next + 1) rows)
    ∙ ap
    (λ (xs : List RootBox). is_excluded c.args.marking.now.ranges.items i || list_any (ahead file es i xs) c.deref_mut.result.now)
    (sym first)
    ∙ ap (λ ts. is_excluded c.args.marking.now.ranges.items i || list_any (ahead file es i (drop next rows)) ts) c.deref_mut.ensures.value)

-- the row that is visited lies inside the source
pub visit-requires-clause-inside : goal.visit-requires-clause-inside
visit-requires-clause-inside g c =
    subst (IsRowWithin (g.S.Source.len c.args.source.now)) (sym c.index-row.ensures)
    (c.requires.inside c.args.level.next c.index-row.result.now (omega (arith, c.if-next-len.false, c.len.ensures)))

-- and does so after the visit
pub open_row-requires-clause-inside : goal.open_row-requires-clause-inside
open_row-requires-clause-inside g c =
    subst (λ (n : ℕ). IsRowWithin n c.index-row.result.now) (sym c.in-Ok.ensures.stays.same_len)
    (subst (IsRowWithin (g.S.Source.len c.args.source.now)) (sym c.index-row.ensures) (c.requires.inside c.args.level.next c.index-row.result.now (omega (arith, c.if-next-len.false, c.len.ensures))))

-- what is left falls by the box, and what is below it is less than that
left_falls : (new mid old left rest len : ℕ) → new < mid + 2 * len → mid ≡ old + (0 + (1 + 2 * rest))
    → left ≡ (0 + len) + rest → new < old + (1 + 2 * left)
left_falls new mid old left rest len less added first = omega (arith, less, added, first)

pub returns-in-Ok-open_row-clause-left : goal.returns-in-Ok-open_row-clause-left
returns-in-Ok-open_row-clause-left g c =
    let rows : List RootBox = c.args.level.rows.items in
    let next : ℕ = c.args.level.next in
    let row : RootBox = c.index-row.result.now in
    let first : drop next rows ≡ row ∷ drop (next + 1) rows =
    drop_more rows next row (omega (arith, c.if-next-len.false, c.len.ensures))
    ∙ ap (λ (r : RootBox). r ∷ drop (next + 1) rows) (sym c.index-row.ensures) in
    left_falls _ _ (levels_left c.args.levels.now.items) (rows_len (drop next rows))
    (rows_len (drop (next + 1) rows)) row.length c.in-Ok-open_row.ensures.left
    (ap levels_left c.in_ok-add_level.ensures ∙ sum_by-append level_left c.args.levels.now.items _)
    (ap rows_len first ∙ sum_by-append (λ (r : RootBox). r.length) (row ∷ []) (drop (next + 1) rows))

-- the lists lie inside the source as before
pub returns-in-Ok-open_row-clause-levels : goal.returns-in-Ok-open_row-clause-levels
returns-in-Ok-open_row-clause-levels g c =
    subst (λ (n : ℕ). All (IsLevelWithin n) c.open_row.new.levels.items) c.in-Ok.ensures.stays.same_len
    c.in-Ok-open_row.ensures.levels

-- what both calls leave of the source
pub returns-in-Ok-open_row-clause-stays : goal.returns-in-Ok-open_row-clause-stays
returns-in-Ok-open_row-clause-stays g c =
    source_stays g.S.Source.len g.S.Source.known g.S.Source.faults c.args.source.now c.visit.new.source
    c.open_row.new.source c.in-Ok.ensures.stays c.in-Ok-open_row.ensures.stays

pub returns-in-Err-open_row-clause-stays : goal.returns-in-Err-open_row-clause-stays
returns-in-Err-open_row-clause-stays g c =
    source_stays g.S.Source.len g.S.Source.known g.S.Source.faults c.args.source.now c.visit.new.source
    c.open_row.new.source c.in-Ok.ensures.stays c.in-Err-open_row.ensures.stays

-- an error of the second has its cause since the first began
pub returns-in-Err-open_row-clause-cause : goal.returns-in-Err-open_row-clause-cause
returns-in-Err-open_row-clause-cause g c =
    subst (λ (n : ℕ). IsBmffCaused n (g.S.Source.faults c.open_row.new.source) c.in-Err-open_row.error)
    c.in-Ok.ensures.count c.in-Err-open_row.ensures.cause
