use Rattle.std.proofs.Common.{◌∙◌, ◌||◌, ◌∷◌, [], ℕ, Bool, Some, refl, subst, sym, ap, arith}
use Rattle.std.specs.Prelude.{All}
use Rattle.std.specs.List.{list_any}
use Rattle.std.proofs.lemmas.List.Elements.{All-pop}
use Rattle.std.proofs.lemmas.List.Sums.{sum_by-append}
use Rattle.c2_base.proofs.Written.{source_stays}
use Rattle.c2_bmff_boxes.specs.Causes.{IsBmffCaused}
use Rattle.c2_spec.specs.Cover.{is_excluded}
use Rattle.c2_bmff_excluded.specs.Marks.{IsRangeWithin}
use Rattle.c2_bmff.specs.Trails.{IsLevelWithin, level_ahead, level_left, levels_left}
use Rattle.c2_bmff_rows.proofs.Lists.{any_append}
use Rattle.c2_bmff.proofs.walking.walk.Goals as goal

-- after a turn, and with the ranges joined, they hold and the lists have ahead what they held and had
pub boxes-preserved : goal.boxes-preserved
boxes-preserved g c =
    let before = c.boxes.invariant in
    let call = c.in-Ok.ensures in
    let es = c.args.entries.now in
    record {
      stays =
          record
          { same_len = call.stays.same_len ∙ before.stays.same_len; same_bytes = call.stays.same_bytes ∙ before.stays.same_bytes; later = omega (arith, call.stays.later, before.stays.later) };
      count = call.count ∙ before.count;
      within =
          c.in_ok-full.ensures.within _
          (subst (λ (n : ℕ). All (IsRangeWithin n) c.turn.new.marking.ranges.items) before.stays.same_len call.within);
      levels = subst (λ (n : ℕ). All (IsLevelWithin n) c.turn.new.levels.items) before.stays.same_len call.levels;
      same = λ file known i.
          ap (λ (b : Bool). b || list_any (level_ahead file es i) c.turn.new.levels.items) (c.in_ok-full.ensures.same i)
          ∙ call.same file (before.stays.same_bytes ∙ known) i
          ∙ ap (λ (b : Bool). is_excluded c.boxes.marking.ranges.items i || b) (sym (ap (list_any (level_ahead file es i)) c.in-Some.ensures.items ∙ any_append (level_ahead file es i) c.pop.new.self.items c.in-Some.level))
          ∙ before.same file known i;
    }

-- before the first turn all is as it was
pub boxes-init : goal.boxes-init
boxes-init g c = record {
  stays = record { same_len = refl; same_bytes = refl; later = omega arith };
  count = refl;
  within = c.requires.within;
  levels = c.requires.levels;
  same = λ file known i. refl;
}

-- the last list lies inside the source
pub turn-requires-clause-inside : goal.turn-requires-clause-inside
turn-requires-clause-inside g c =
    let before = c.boxes.invariant in
    let len = g.S.Source.len c.args.source.now in
    subst (λ (n : ℕ). IsLevelWithin n c.in-Some.level) (sym before.stays.same_len)
    (All-pop (IsLevelWithin len) c.boxes.levels.items c.pop.new.self.items (Some c.in-Some.level) c.in-Some.ensures.items before.levels).1

-- and so do the others
pub turn-requires-clause-levels : goal.turn-requires-clause-levels
turn-requires-clause-levels g c =
    let before = c.boxes.invariant in
    let len = g.S.Source.len c.args.source.now in
    subst (λ (n : ℕ). All (IsLevelWithin n) c.pop.new.self.items) (sym before.stays.same_len)
    (All-pop (IsLevelWithin len) c.boxes.levels.items c.pop.new.self.items (Some c.in-Some.level) c.in-Some.ensures.items before.levels).0

-- and the ranges
pub turn-requires-clause-within : goal.turn-requires-clause-within
turn-requires-clause-within g c =
    let before = c.boxes.invariant in
    subst (λ (n : ℕ). All (IsRangeWithin n) c.boxes.marking.ranges.items) (sym before.stays.same_len) before.within

-- a turn leaves less to walk
pub boxes-smaller : goal.boxes-smaller
boxes-smaller g c =
    omega
    (arith, c.in-Ok.ensures.left, ap levels_left c.in-Some.ensures.items, sum_by-append level_left c.pop.new.self.items (c.in-Some.level ∷ []))

-- what the turns leave of the source
pub returns-in-Err-clause-stays : goal.returns-in-Err-clause-stays
returns-in-Err-clause-stays g c =
    source_stays g.S.Source.len g.S.Source.known g.S.Source.faults c.args.source.now c.boxes.source c.turn.new.source
    c.boxes.invariant.stays c.in-Err.ensures.stays

-- an error of a turn has its cause since the walk began
pub returns-in-Err-clause-cause : goal.returns-in-Err-clause-cause
returns-in-Err-clause-cause g c =
    subst (λ (n : ℕ). IsBmffCaused n (g.S.Source.faults c.turn.new.source) c.in-Err.error) c.boxes.invariant.count
    c.in-Err.ensures.cause
