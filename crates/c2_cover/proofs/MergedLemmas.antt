-- Ranges that rise without touching, and how they come from others.
use Rattle.std.proofs.Common.{◌≡◌, ℕ, ◌+◌, ◌<◌, ◌≤◌, ◌||◌, true, false, List, [], ◌∷◌, ◌++◌, refl, sym, ap, ◌∙◌, arith, leb, ltb}
use Rattle.std.proofs.lemmas.Bool.{le-leb, lt-leb, lt-ltb, le-ltb, and_from, and_left, and_right}
use Rattle.c2_base.specs.declared.values.Range.{Range}
use Rattle.c2_spec.specs.Cover.{holds, is_excluded}
use Rattle.c2_cover.specs.Covers.{AreMerged}
use Rattle.c2_cover.specs.Merging.{EndBelow}
use Rattle.c2_lemmas.proofs.Bools.{or_false, or_join}

-- a position inside a range
pub holds_in : (r : Range) (i : ℕ) → r.start ≤ i → i < r.start + r.length → holds i r ≡ true
holds_in r i l m =
    and_from (leb r.start i) (ltb i (r.start + r.length)) (le-leb r.start i l) (lt-ltb i (r.start + r.length) m)

-- one before it
pub holds_before : (r : Range) (i : ℕ) → i < r.start → holds i r ≡ false
holds_before r i l = and_left (leb r.start i) (ltb i (r.start + r.length)) (lt-leb r.start i l)

-- one after it
pub holds_after : (r : Range) (i : ℕ) → r.start + r.length ≤ i → holds i r ≡ false
holds_after r i l = and_right (leb r.start i) (ltb i (r.start + r.length)) (le-ltb i (r.start + r.length) l)

-- before the first range nothing is excluded
pub excluded_none : (size low : ℕ) (rs : List Range) → AreMerged size low rs → (i : ℕ) → i < low
    → is_excluded rs i ≡ false
excluded_none size low [] m i l = refl
excluded_none size low (r ∷ rs) m i l =
    ap (λ b. b || is_excluded rs i) (holds_before r i (omega (arith, m.0)))
    ∙ excluded_none size (r.start + r.length + 1) rs m.3 i (omega (arith, m.0))

-- the positions of the first range are excluded
pub excluded_first : (r : Range) (rs : List Range) (i : ℕ) → r.start ≤ i → i < r.start + r.length
    → is_excluded (r ∷ rs) i ≡ true
excluded_first r rs i l m = ap (λ b. b || is_excluded rs i) (holds_in r i l m)

-- after the first range the others decide
pub excluded_after : (r : Range) (rs : List Range) (i : ℕ) → r.start + r.length ≤ i
    → is_excluded (r ∷ rs) i ≡ is_excluded rs i
excluded_after r rs i l = ap (λ b. b || is_excluded rs i) (holds_after r i l)

-- ranges that begin later begin at a lower position or later
pub merged_lower : (size low low' : ℕ) (rs : List Range) → low' ≤ low → AreMerged size low rs → AreMerged size low' rs
merged_lower size low low' [] l m = tt
merged_lower size low low' (r ∷ rs) l m = (omega (arith, m.0), m.1, m.2, m.3)

-- with a range put after the others
pub closed_merged : (size low : ℕ) (ds : List Range) (o : Range) → AreMerged size low ds → low ≤ o.start
    → EndBelow o.start ds → o.start + o.length ≤ size → 0 < o.length → AreMerged size low (ds ++ o ∷ [])
closed_merged size low [] o m l b e n = (l, n, e, tt)
closed_merged size low (d ∷ ds) o m l b e n =
    (m.0, m.1, m.2, closed_merged size (d.start + d.length + 1) ds o m.3 (omega (arith, b.0)) b.1 e n)

-- what ends before a position ends before a later one
pub below_more : (low low' : ℕ) (ds : List Range) → low ≤ low' → EndBelow low ds → EndBelow low' ds
below_more low low' [] l b = tt
below_more low low' (d ∷ ds) l b = (omega (arith, b.0), below_more low low' ds l b.1)

-- all end before a position that lies after the last one's end
pub closed_below : (low low' : ℕ) (ds : List Range) (o : Range) → low ≤ low' → EndBelow low ds
    → o.start + o.length < low' → EndBelow low' (ds ++ o ∷ [])
closed_below low low' [] o l b e = (e, tt)
closed_below low low' (d ∷ ds) o l b e = (omega (arith, b.0), closed_below low low' ds o l b.1 e)

-- a range more excludes its own positions
pub closed_same : (ds : List Range) (o : Range) (i : ℕ) → is_excluded (ds ++ o ∷ []) i ≡ (is_excluded ds i || holds i o)
closed_same [] o i = or_false (holds i o)
closed_same (d ∷ ds) o i =
    ap (λ b. holds i d || b) (closed_same ds o i) ∙ sym (or_join (holds i d) (is_excluded ds i) (holds i o))
