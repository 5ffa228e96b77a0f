use Rattle.std.proofs.Common.{◌≡◌, ◌∙◌, ◌||◌, ◌+◌, ◌<◌, ◌≤◌, Bool, List, Some, [], ◌∷◌, ◌++◌, append-nil, refl, sym, ap, subst, arith}
use Rattle.std.specs.Prelude.{All, option_to_list}
use Rattle.std.specs.List.{list_any}
use Rattle.std.specs.declared.option.Option.{Option}
use Rattle.std.proofs.lemmas.List.Elements.{All-pop, All-push}
use Rattle.c2_base.specs.declared.values.Range.{Range}
use Rattle.c2_spec.specs.Cover.{holds}
use Rattle.c2_bmff_rows.proofs.Lists.{any_append}
use Rattle.c2_bmff_excluded.specs.Marks.{AreApart, IsRangeWithin}
use Rattle.c2_bmff_excluded.specs.Parts.{StartsBy}
use Rattle.c2_bmff_excluded.proofs.RangeLemmas.{apart_longer, apart_more, holds_both}
use Rattle.c2_bmff_excluded.proofs.marking.add_range.Goals as goal
use Rattle.c2_lemmas.proofs.Bools.{or_join}
use Rattle.c2_bmff_excluded.proofs.marking.add_range.Goals.{then-range-last-via-then-range-last, then-range-last-via-else-range-last+then-range-last-2}

-- a range that begins behind the last one's end is apart from it
pub returns-then-range-last-clause-apart : goal.returns-then-range-last-clause-apart
returns-then-range-last-clause-apart c = λ rising apart.
    let last = c.in-Some.last in
    let range = c.args.range in
    let old : AreApart 0 (c.pop.new.self.items ++ last ∷ []) = subst (AreApart 0) c.in-Some.ensures.items apart in
    let from : last.start ≤ range.start =
    (All-pop (StartsBy range.start) c.args.ranges.now.items c.pop.new.self.items (Some last) c.in-Some.ensures.items rising).1 in
    let later : last.start + last.length < range.start = elim c.then-range-last.branch [
      | then-range-last-via-then-range-last w ↦ absurd (omega (arith, from, w.if-range-last.true))
      | then-range-last-via-else-range-last+then-range-last-2 w ↦ omega (arith, from, w.if-range-last-2.true)
    ] in
    subst (AreApart 0) (sym c.in_ok-push-3.ensures.items)
    (subst (λ xs. AreApart 0 (xs ++ range ∷ [])) (sym c.in_ok-push-2.ensures.items) (apart_more c.pop.new.self.items last range old later (omega (arith, c.if-range-eq0.false))))

-- one that begins no later makes the last one longer
pub returns-clause-apart : goal.returns-clause-apart
returns-clause-apart c = λ rising apart.
    let last = c.in-Some.last in
    let range = c.args.range in
    let old : AreApart 0 (c.pop.new.self.items ++ last ∷ []) = subst (AreApart 0) c.in-Some.ensures.items apart in
    subst (AreApart 0) (sym c.in_ok-push-4.ensures.items)
    (apart_longer c.pop.new.self.items last (record { start = last.start; length = c.max-length.result }) old refl (omega (arith, c.max-length.ensures, c.if-range-eq0.false)))

-- the first range of all
pub returns-in_default-clause-same : goal.returns-in_default-clause-same
returns-in_default-clause-same c i =
    let added : c.push.new.self.items ≡ c.args.ranges.now.items ++ c.args.range ∷ [] =
    c.in_ok-push.ensures.items
    ∙ ap (λ (rs : List Range). rs ++ c.args.range ∷ []) (sym (c.pop.ensures.items ∙ ap (λ (o : Option Range). c.pop.new.self.items ++ option_to_list o) c.in_default.is ∙ append-nil c.pop.new.self.items)) in
    ap (list_any (holds i)) added ∙ any_append (holds i) c.args.ranges.now.items c.args.range

pub returns-in_default-clause-within : goal.returns-in_default-clause-within
returns-in_default-clause-within c n old range =
    let added : c.push.new.self.items ≡ c.args.ranges.now.items ++ c.args.range ∷ [] =
    c.in_ok-push.ensures.items
    ∙ ap (λ (rs : List Range). rs ++ c.args.range ∷ []) (sym (c.pop.ensures.items ∙ ap (λ (o : Option Range). c.pop.new.self.items ++ option_to_list o) c.in_default.is ∙ append-nil c.pop.new.self.items)) in
    subst (All (IsRangeWithin n)) (sym added)
    (All-push (IsRangeWithin n) c.args.ranges.now.items c.args.range old range)

pub returns-in_default-clause-below : goal.returns-in_default-clause-below
returns-in_default-clause-below c n from old =
    let added : c.push.new.self.items ≡ c.args.ranges.now.items ++ c.args.range ∷ [] =
    c.in_ok-push.ensures.items
    ∙ ap (λ (rs : List Range). rs ++ c.args.range ∷ []) (sym (c.pop.ensures.items ∙ ap (λ (o : Option Range). c.pop.new.self.items ++ option_to_list o) c.in_default.is ∙ append-nil c.pop.new.self.items)) in
    subst (All (StartsBy n)) (sym added) (All-push (StartsBy n) c.args.ranges.now.items c.args.range old from)

-- a range that doesn't begin in the last one, or at its end
pub returns-then-range-last-clause-same : goal.returns-then-range-last-clause-same
returns-then-range-last-clause-same c i =
    let added : c.push-then-range-last-2.new.self.items ≡ c.args.ranges.now.items ++ c.args.range ∷ [] =
    c.in_ok-push-3.ensures.items
    ∙ ap (λ (rs : List Range). rs ++ c.args.range ∷ []) (c.in_ok-push-2.ensures.items ∙ sym c.in-Some.ensures.items) in
    ap (list_any (holds i)) added ∙ any_append (holds i) c.args.ranges.now.items c.args.range

pub returns-then-range-last-clause-within : goal.returns-then-range-last-clause-within
returns-then-range-last-clause-within c n old range =
    let added : c.push-then-range-last-2.new.self.items ≡ c.args.ranges.now.items ++ c.args.range ∷ [] =
    c.in_ok-push-3.ensures.items
    ∙ ap (λ (rs : List Range). rs ++ c.args.range ∷ []) (c.in_ok-push-2.ensures.items ∙ sym c.in-Some.ensures.items) in
    subst (All (IsRangeWithin n)) (sym added)
    (All-push (IsRangeWithin n) c.args.ranges.now.items c.args.range old range)

pub returns-then-range-last-clause-below : goal.returns-then-range-last-clause-below
returns-then-range-last-clause-below c n from old =
    let added : c.push-then-range-last-2.new.self.items ≡ c.args.ranges.now.items ++ c.args.range ∷ [] =
    c.in_ok-push-3.ensures.items
    ∙ ap (λ (rs : List Range). rs ++ c.args.range ∷ []) (c.in_ok-push-2.ensures.items ∙ sym c.in-Some.ensures.items) in
    subst (All (StartsBy n)) (sym added) (All-push (StartsBy n) c.args.ranges.now.items c.args.range old from)

-- one that does
pub returns-clause-same : goal.returns-clause-same
returns-clause-same c i =
    let front : List Range = c.pop.new.self.items in
    let last : Range = c.in-Some.last in
    let range : Range = c.args.range in
    ap (list_any (holds i)) c.in_ok-push-4.ensures.items
    ∙ any_append (holds i) front (record { start = last.start; length = c.max-length.result })
    ∙ ap (λ (b : Bool). list_any (holds i) front || b)
    (holds_both i last range c.max-length.result (omega arith) (omega arith) (omega (arith, c.max-length.ensures)))
    ∙ sym (or_join (list_any (holds i) front) (holds i last) (holds i range))
    ∙ ap (λ (b : Bool). b || holds i range) (sym (any_append (holds i) front last) ∙ ap (list_any (holds i)) (sym c.in-Some.ensures.items))

pub returns-clause-within : goal.returns-clause-within
returns-clause-within c n old range =
    let all = All-pop (IsRangeWithin n) c.args.ranges.now.items c.pop.new.self.items (Some c.in-Some.last) c.in-Some.ensures.items old in
    subst (All (IsRangeWithin n)) (sym c.in_ok-push-4.ensures.items)
    (All-push (IsRangeWithin n) c.pop.new.self.items (record { start = c.in-Some.last.start; length = c.max-length.result }) all.0 (omega (arith, all.1, range, c.max-length.ensures)))

pub returns-clause-below : goal.returns-clause-below
returns-clause-below c n from old =
    let all = All-pop (StartsBy n) c.args.ranges.now.items c.pop.new.self.items (Some c.in-Some.last) c.in-Some.ensures.items old in
    subst (All (StartsBy n)) (sym c.in_ok-push-4.ensures.items)
    (All-push (StartsBy n) c.pop.new.self.items (record { start = c.in-Some.last.start; length = c.max-length.result }) all.0 all.1)
