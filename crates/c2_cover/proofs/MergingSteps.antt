-- A step of a merge.
use Rattle.std.proofs.Common.{◌≡◌, ℕ, suc, ◌+◌, ◌-◌, ◌<◌, ◌≤◌, ◌⊎◌, inl, inr, ⊎_elim, max, Bool, ◌||◌, true, false, cond, List, [], ◌∷◌, ◌++◌, Some, None, length, get_or, map, take, drop, refl, sym, ap, subst, ◌∙◌, arith, ltb}
use Rattle.std.specs.Prelude.{filter}
use borrow.Author.Tests.{ltb-false}
use Rattle.std.specs.List.{AllByRecursion, range_with_len, zip}
use Rattle.std.proofs.lemmas.Iterator.Adapters.{position_from-zero}
use Rattle.std.specs.List.Sorted.{IsNonDecreasingBy}
use Rattle.std.proofs.lemmas.List.Sorted.{IsNonDecreasingBy-drop}
use Rattle.std.proofs.lemmas.Bool.{lt-ltb, le-ltb, cases_lt}
use Rattle.c2_base.specs.declared.values.Range.{Range}
use Rattle.c2_spec.specs.Cover.{bad_range, holds, is_bad_after, is_excluded, range_end}
use Rattle.c2_cover.specs.Covers.{AreMerged, IsCoverOf}
use Rattle.c2_cover.specs.Refused.{bad_from}
use Rattle.c2_cover.specs.BoxOffsets.{told_from}
use Rattle.c2_cover.specs.declared.offsets.BoxOffset.{BoxOffset}
use Rattle.c2_spec.proofs.Kept.{kept_same}
use Rattle.c2_cover.specs.Merging.{InOrder, EndBelow, with_open, Merges}
use Rattle.c2_cover.proofs.MergedLemmas.{closed_merged, closed_below, closed_same, below_more, holds_in, holds_before, holds_after}
use Rattle.c2_lemmas.proofs.Bools.{or_false, or_join, or_true}

-- a range, by its numbers
abbrev pub range : ℕ → ℕ → Range
range start len = record { start = start; length = len }

-- one range in place of two
abbrev pub grown : Range → Range → Range
grown o r = range o.start (max (o.start + o.length) (r.start + r.length) - o.start)

-- `Some` isn't `None`
none_some : {i : ℕ} → Some i ≡ None → ⊥
none_some {i} e = cc

-- starts that rise from a position rise from a lower one
pub order_lower : (size low low' : ℕ) (rs : List Range) → low' ≤ low → InOrder size low rs → InOrder size low' rs
order_lower size low low' [] l m = tt
order_lower size low low' (r ∷ rs) l m = (omega (arith, m.0), m.1, m.2)

-- two ranges, each decided by itself
ranges_or : (r o : Range) (i : ℕ) (a b : Bool) → holds i o ≡ a → holds i r ≡ b → (a || b) ≡ (holds i o || holds i r)
ranges_or r o i a b e f = sym (ap (λ x. x || holds i r) e ∙ ap (λ x. a || x) f)

-- two ranges, the second of which begins inside the first or at its end, are one
pub grown_same : (o r : Range) (i : ℕ) → o.start ≤ r.start → r.start ≤ o.start + o.length
    → holds i (range o.start (max (o.start + o.length) (r.start + r.length) - o.start)) ≡ (holds i o || holds i r)
grown_same o r i l m =
    ⊎_elim
    (λ before. holds_before (grown o r) i before ∙ ranges_or r o i false false (holds_before o i before) (holds_before r i (omega arith)))
    (λ from. ⊎_elim
    (λ inside. holds_in (grown o r) i from (omega arith) ∙ ranges_or r o i true (holds i r) (holds_in o i from inside) refl)
    (λ after. ⊎_elim
    (λ second. holds_in (grown o r) i from (omega arith) ∙ ranges_or r o i false true (holds_after o i after) (holds_in r i (omega arith) second))
    (λ past. holds_after (grown o r) i (omega arith) ∙ ranges_or r o i false false (holds_after o i after) (holds_after r i past))
    (cases_lt i (r.start + r.length)))
    (cases_lt i (o.start + o.length)))
    (cases_lt i o.start)

-- the open range, which is put after the others only where it isn't empty, excludes its positions
pub open_same : (ds : List Range) (o : Range) (i : ℕ) → is_excluded (with_open ds o) i ≡ (is_excluded ds i || holds i o)
open_same ds o i =
    ⊎_elim
    (λ some. ap (λ b. is_excluded (cond b (ds ++ o ∷ []) ds) i) (lt-ltb 0 o.length some) ∙ closed_same ds o i)
    (λ none. ap (λ b. is_excluded (cond b (ds ++ o ∷ []) ds) i) (le-ltb 0 o.length none) ∙ sym (ap (λ b. is_excluded ds i || b) (empty none) ∙ or_false (is_excluded ds i)))
    (cases_lt 0 o.length)
  where
    empty : o.length ≤ 0 → holds i o ≡ false
    empty none = ⊎_elim (λ before. holds_before o i before) (λ from. holds_after o i (omega arith)) (cases_lt i o.start)

-- with the open range the ranges are still merged
pub open_merged : (size : ℕ) (ds : List Range) (o : Range) → AreMerged size 0 ds → EndBelow o.start ds
    → o.start + o.length ≤ size → AreMerged size 0 (with_open ds o)
open_merged size ds o m b e =
    ⊎_elim
    (λ some. rw (lt-ltb 0 o.length some) (closed_merged size 0 ds o m (omega arith) b e some))
    (λ none. rw (le-ltb 0 o.length none) m)
    (cases_lt 0 o.length)

-- with an open range the ranges end before a position after it
open_below : (low : ℕ) (ds : List Range) (o : Range) → EndBelow o.start ds → o.start + o.length < low
    → EndBelow low (with_open ds o)
open_below low ds o b e =
    ⊎_elim
    (λ some. rw (lt-ltb 0 o.length some) (closed_below o.start low ds o (omega arith) b e))
    (λ none. rw (le-ltb 0 o.length none) (below_more o.start low ds (omega arith) b))
    (cases_lt 0 o.length)

-- one range more
next_same : (ranges : List Range) (n : ℕ) (r : Range) (i : ℕ) → take (n + 1) ranges ≡ take n ranges ++ r ∷ []
    → is_excluded (take (n + 1) ranges) i ≡ (is_excluded (take n ranges) i || holds i r)
next_same ranges n r i t = ap (λ (rs : List Range). is_excluded rs i) t ∙ closed_same (take n ranges) r i

-- the next range begins inside the open one or at its end
pub merges_grown : (size : ℕ) (ranges : List Range) (n : ℕ) (ds : List Range) (o r : Range) → Merges size ranges n ds o
    → drop n ranges ≡ r ∷ drop (suc n) ranges → take (n + 1) ranges ≡ take n ranges ++ r ∷ []
    → r.start ≤ o.start + o.length → Merges size ranges (n + 1) ds (grown o r)
merges_grown size ranges n ds o r m d t l =
    let order : InOrder size o.start (r ∷ drop (suc n) ranges) =
    subst (λ (rs : List Range). InOrder size o.start rs) d m.others in
    let one : n + 1 ≡ suc n = omega arith in
    record {
      merged = m.merged;
      below = m.below;
      inside = omega (arith, m.inside, order.0, order.1);
      others = rw one (order_lower size r.start o.start (drop (suc n) ranges) order.0 order.2);
      same =
          λ i. ap (λ b. is_excluded ds i || b) (grown_same o r i order.0 l)
          ∙ sym (or_join (is_excluded ds i) (holds i o) (holds i r)) ∙ ap (λ b. b || holds i r) (m.same i)
          ∙ sym (next_same ranges n r i t);
    }

-- the next range begins after the open one's end
pub merges_next : (size : ℕ) (ranges : List Range) (n : ℕ) (ds : List Range) (o r : Range) → Merges size ranges n ds o
    → drop n ranges ≡ r ∷ drop (suc n) ranges → take (n + 1) ranges ≡ take n ranges ++ r ∷ []
    → o.start + o.length < r.start → Merges size ranges (n + 1) (with_open ds o) r
merges_next size ranges n ds o r m d t l =
    let order : InOrder size o.start (r ∷ drop (suc n) ranges) =
    subst (λ (rs : List Range). InOrder size o.start rs) d m.others in
    let one : n + 1 ≡ suc n = omega arith in
    record {
      merged = open_merged size ds o m.merged m.below m.inside;
      below = open_below r.start ds o m.below l;
      inside = order.1;
      others = rw one order.2;
      same = λ i. ap (λ b. b || holds i r) (open_same ds o i ∙ m.same i) ∙ sym (next_same ranges n r i t);
    }

-- the first bad range of all
pub bad_all : (size : ℕ) (rs : List Range) → bad_from size 0 0 rs ≡ bad_range size rs
bad_all size rs = sym (position_from-zero (is_bad_after size) (zip (0 ∷ map range_end rs) rs))

-- ranges that none of is refused rise
pub in_order : (size end i : ℕ) (rs : List Range) → bad_from size end i rs ≡ None → InOrder size end rs
in_order size end i [] e = tt
in_order size end i (r ∷ rs) e = go (ltb r.start end) (ltb size (r.start + r.length)) refl refl (λ h. in_order size (r.start + r.length) (i + 1) rs h) e
  where
    go : (a b : Bool) → ltb r.start end ≡ a → ltb size (r.start + r.length) ≡ b
        → (bad_from size (r.start + r.length) (i + 1) rs ≡ None → InOrder size (r.start + r.length) rs)
        → cond (a || b) (Some i) (bad_from size (r.start + r.length) (i + 1) rs) ≡ None → InOrder size end (r ∷ rs)
    go true b f g more h = absurd (none_some h)
    go false true f g more h = absurd (none_some h)
    go false false f g more h =
        (ltb-false r.start end f, ltb-false size (r.start + r.length) g, order_lower size (r.start + r.length) r.start rs (omega arith) (more h))

-- a range that is right
pub bad_step : (size end i : ℕ) (ranges : List Range) (r : Range) → drop i ranges ≡ r ∷ drop (suc i) ranges
    → end ≤ r.start → r.start + r.length ≤ size
    → bad_from size (r.start + r.length) (i + 1) (drop (i + 1) ranges) ≡ bad_from size end i (drop i ranges)
bad_step size end i ranges r d l m =
    let one : i + 1 ≡ suc i = omega arith in
    sym (ap (bad_from size end i) d
    ∙ ap
    (λ b. cond (b || ltb size (r.start + r.length)) (Some i) (bad_from size (r.start + r.length) (i + 1) (drop (suc i) ranges)))
    (le-ltb r.start end l)
    ∙ ap (λ b. cond b (Some i) (bad_from size (r.start + r.length) (i + 1) (drop (suc i) ranges)))
    (le-ltb size (r.start + r.length) m)
    ∙ ap (λ k. bad_from size (r.start + r.length) (i + 1) (drop k ranges)) (sym one))

-- a range that is refused
pub bad_here : (size end i : ℕ) (ranges : List Range) (r : Range) → drop i ranges ≡ r ∷ drop (suc i) ranges
    → (r.start < end) ⊎ (size < r.start + r.length) → bad_from size end i (drop i ranges) ≡ Some i
bad_here size end i ranges r d (inl l) =
    ap (bad_from size end i) d
    ∙ ap
    (λ b. cond (b || ltb size (r.start + r.length)) (Some i) (bad_from size (r.start + r.length) (i + 1) (drop (suc i) ranges)))
    (lt-ltb r.start end l)
bad_here size end i ranges r d (inr l) =
    ap (bad_from size end i) d
    ∙ ap (λ b. cond (ltb r.start end || b) (Some i) (bad_from size (r.start + r.length) (i + 1) (drop (suc i) ranges)))
    (lt-ltb size (r.start + r.length) l)
    ∙ ap (λ b. cond b (Some i) (bad_from size (r.start + r.length) (i + 1) (drop (suc i) ranges)))
    (or_true (ltb r.start end))

-- ranges that are sorted by their starts
pub sorted_order : (size low : ℕ) (rs : List Range) → IsNonDecreasingBy (λ (r : Range). r.start) rs
    → AllByRecursion (λ (r : Range). r.start + r.length ≤ size) rs
    → ((d : Range) → 0 < length rs → low ≤ (get_or rs 0 d).start) → InOrder size low rs
sorted_order size low [] s a l = tt
sorted_order size low (r ∷ rs) s a l =
    (l r (omega arith), a.0, sorted_order size r.start rs (IsNonDecreasingBy-drop (λ (x : Range). x.start) 1 (r ∷ rs) s) a.1 (λ d some. s 0 1 d (omega arith) (omega (arith, some))))

-- two tests that agree pass the same positions
pub filter_same : (f g : ℕ → Bool) (xs : List ℕ) → ((i : ℕ) → f i ≡ g i) → filter f xs ≡ filter g xs
filter_same f g [] h = refl
filter_same f g (x ∷ xs) h =
    ap (λ b. cond b (x ∷ filter f xs) (filter f xs)) (h x)
    ∙ ap (λ (ys : List ℕ). cond (g x) (x ∷ ys) ys) (filter_same f g xs h)

-- ranges that exclude the same positions make the cover, without box offsets
pub cover_of : (size : ℕ) (ranges merged : List Range) (offsets : List BoxOffset) → offsets ≡ []
    → ((i : ℕ) → is_excluded merged i ≡ is_excluded ranges i)
    → IsCoverOf size ranges (record { size = size; ranges = merged; offsets = offsets })
cover_of size ranges merged offsets none same = record {
  size = refl;
  same = same;
  excluded = filter_same (is_excluded merged) (is_excluded ranges) (range_with_len 0 size) same;
  offsets = none;
  text =
      λ file. ap (λ (ws : List BoxOffset). told_from (is_excluded merged) ws 0 file) none
      ∙ kept_same (is_excluded merged) (is_excluded ranges) 0 file (λ i l. same i);
}
