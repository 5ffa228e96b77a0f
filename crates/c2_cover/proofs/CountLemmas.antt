-- Counts over merged ranges, a range at a time.
use Rattle.std.proofs.Common.{◌≡◌, ℕ, suc, ◌+◌, ◌-◌, ◌^◌, ◌<◌, ◌≤◌, ⊎_elim, max, min, Bool, ◌&&◌, ◌||◌, not, true, false, List, [], ◌∷◌, length, drop, get_or, refl, sym, ap, subst, ◌∙◌, arith, leb, ltb}
use Rattle.std.proofs.Math.Seq.{drop-cons}
use Rattle.std.proofs.lemmas.List.{drop_all}
use Rattle.std.proofs.lemmas.Bool.{le-leb, lt-leb, lt-ltb, le-ltb, cases_lt}
use Rattle.c2_base.specs.declared.values.Range.{Range}
use Rattle.c2_spec.specs.Cover.{is_excluded}
use Rattle.c2_cover.specs.Covers.{AreMerged, kept_count}
use Rattle.c2_cover.specs.Counted.{passing, is_out, is_excluded_out, CountsTo, CountsOutside}
use Rattle.c2_cover.proofs.PassingLemmas.{passing_split, passing_all, passing_none, passing_same, passing_le}
use Rattle.c2_cover.proofs.MergedLemmas.{excluded_none, excluded_first, excluded_after, holds_before, merged_lower}
use Rattle.c2_cover.proofs.ReadingLemmas.{piece_count, range_count}

-- up to a range and past it
pub kept_next : (size at : ℕ) (r : Range) (rs : List Range) → AreMerged size at (r ∷ rs)
    → kept_count (is_excluded (r ∷ rs)) at (size - at) ≡ (r.start - at) + kept_count (is_excluded rs) (r.start + r.length) (size - (r.start + r.length))
kept_next size at r rs m =
    let e : at + (r.start - at) ≡ r.start = omega (arith, m.0) in
    let low : AreMerged size r.start (r ∷ rs) = (omega arith, m.1, m.2, m.3) in
    piece_count size r.start at (r.start - at) (r ∷ rs) low (omega (arith, m.0)) (omega (arith, m.0, m.2))
    ∙ ap (λ k. (r.start - at) + kept_count (is_excluded (r ∷ rs)) k (size - k)) e
    ∙ ap (λ k. (r.start - at) + k) (range_count r rs r.start size refl m.2)

-- after the last range all positions are covered
pub kept_last : (size at : ℕ) → kept_count (is_excluded []) at (size - at) ≡ size - at
kept_last size at = passing_all (λ k. not (is_excluded [] k)) at (size - at) (λ k a b. refl)

-- a position before a range
outside_before : (start end i : ℕ) → i < start → is_out start end i ≡ true
outside_before start end i l = ap (λ b. b || leb end i) (lt-ltb i start l)

-- one after it
outside_after : (start end i : ℕ) → end ≤ i → is_out start end i ≡ true
outside_after start end i l = ap (λ b. ltb i start || b) (le-leb end i l) ∙ go (ltb i start)
  where
    go : (b : Bool) → (b || true) ≡ true
    go true = refl
    go false = refl

-- one inside it
outside_not : (start end i : ℕ) → start ≤ i → i < end → is_out start end i ≡ false
outside_not start end i l m = ap (λ b. b || leb end i) (le-ltb i start l) ∙ lt-leb end i m

-- the positions of a range that lie outside another
pub outside_split : (a b start end : ℕ) → a ≤ b → start ≤ end
    → passing (is_out start end) a (b - a) ≡ (min (max start a) b - a) + (b - min (max end a) b)
outside_split a b start end l o =
    let n : passing (is_out start end) a (min (max start a) b - a) ≡ min (max start a) b - a =
    passing_all (is_out start end) a _ (λ i p q. outside_before start end i (omega arith)) in
    let z : passing (is_out start end) (min (max start a) b) (min (max end a) b - min (max start a) b) ≡ 0 =
    passing_none (is_out start end) _ _ (λ i p q. outside_not start end i (omega arith) (omega arith)) in
    let m : passing (is_out start end) (min (max end a) b) (b - min (max end a) b) ≡ b - min (max end a) b =
    passing_all (is_out start end) _ _ (λ i p q. outside_after start end i (omega arith)) in
    passing_split (is_out start end) a (min (max start a) b) b (omega arith) (omega arith)
    ∙ ap (λ k. passing (is_out start end) a (min (max start a) b - a) + k)
    (passing_split (is_out start end) (min (max start a) b) (min (max end a) b) b (omega arith) (omega arith))
    ∙ omega (arith, n, z, m)

-- one range more adds its own positions
pub outside_next : (size start end : ℕ) (r : Range) (rs : List Range) → AreMerged size 0 (r ∷ rs)
    → passing (is_excluded_out (r ∷ rs) start end) 0 size ≡ passing (is_out start end) r.start r.length + passing (is_excluded_out rs start end) 0 size
outside_next size start end r rs m =
    let d : r.start + r.length - r.start ≡ r.length = omega arith in
    let p : ℕ → Bool = is_excluded_out (r ∷ rs) start end in
    let q : ℕ → Bool = is_excluded_out rs start end in
    let s0 : size - 0 ≡ size = omega arith in
    let p1 : passing p 0 (size - 0) ≡ passing p 0 (r.start - 0) + passing p r.start (size - r.start) =
    passing_split p 0 r.start size (omega arith) (omega (arith, m.2)) in
    let p2 : passing p r.start (size - r.start) ≡ passing p r.start (r.start + r.length - r.start) + passing p (r.start + r.length) (size - (r.start + r.length)) =
    passing_split p r.start (r.start + r.length) size (omega arith) m.2 in
    let q1 : passing q 0 (size - 0) ≡ passing q 0 (r.start - 0) + passing q r.start (size - r.start) =
    passing_split q 0 r.start size (omega arith) (omega (arith, m.2)) in
    let q2 : passing q r.start (size - r.start) ≡ passing q r.start (r.start + r.length - r.start) + passing q (r.start + r.length) (size - (r.start + r.length)) =
    passing_split q r.start (r.start + r.length) size (omega arith) m.2 in
    let prefix : passing p 0 (r.start - 0) ≡ passing q 0 (r.start - 0) =
    passing_same p q 0 (r.start - 0)
    (λ i a b. ap (λ x. (x || is_excluded rs i) && is_out start end i) (holds_before r i (omega (arith, b)))) in
    let back : passing p (r.start + r.length) (size - (r.start + r.length)) ≡ passing q (r.start + r.length) (size - (r.start + r.length)) =
    passing_same p q (r.start + r.length) (size - (r.start + r.length))
    (λ i a b. ap (λ x. x && is_out start end i) (excluded_after r rs i a)) in
    let own : passing p r.start (r.start + r.length - r.start) ≡ passing (is_out start end) r.start r.length =
    ap (passing p r.start) d
    ∙ passing_same p (is_out start end) r.start r.length
    (λ i a b. ap (λ x. x && is_out start end i) (excluded_first r rs i a b)) in
    let none : passing q r.start (r.start + r.length - r.start) ≡ 0 =
    passing_none q r.start (r.start + r.length - r.start)
    (λ i a b. ap (λ x. x && is_out start end i) (excluded_none size (r.start + r.length + 1) rs m.3 i (omega (arith, b)))) in
    ap (passing p 0) (sym s0) ∙ omega (arith, p1, p2, q1, q2, prefix, back, own, none)
    ∙ ap (λ k. passing (is_out start end) r.start r.length + passing q 0 k) s0

-- no range has no positions
pub outside_none : (size start end : ℕ) → passing (is_excluded_out [] start end) 0 size ≡ 0
outside_none size start end = passing_none (is_excluded_out [] start end) 0 size (λ i a b. refl)

-- an end past all positions may be cut down to one past all of them
pub outside_cut : (size start end cut : ℕ) (rs : List Range) → size < 2 ^ 64 → cut ≡ min end (2 ^ 64 - 1)
    → passing (is_excluded_out rs start cut) 0 size ≡ passing (is_excluded_out rs start end) 0 size
outside_cut size start end cut rs l e = passing_same (is_excluded_out rs start cut) (is_excluded_out rs start end) 0 size (λ i a b. ap (λ x. is_excluded rs i && (ltb i start || x)) (go i (omega (arith, b, l))))
  where
    go : (i : ℕ) → i < 2 ^ 64 - 1 → leb cut i ≡ leb end i
    go i b =
        ⊎_elim (λ near. lt-leb cut i (omega (arith, e, b, near)) ∙ sym (lt-leb end i near))
        (λ far. le-leb cut i (omega (arith, e, far)) ∙ sym (le-leb end i far)) (cases_lt i end)

-- the next range of a list, as a copy of the list has it
pub next_of : (ranges copy : List Range) (n : ℕ) → copy ≡ ranges → n < length copy
    → drop n ranges ≡ get_or copy n (record { start = 0; length = 0 }) ∷ drop (n + 1) ranges
next_of ranges copy n e l =
    let one : suc n ≡ n + 1 = omega arith in
    subst (λ (rs : List Range). drop n rs ≡ get_or copy n (record { start = 0; length = 0 }) ∷ drop (n + 1) rs) e
    (drop-cons copy n (record { start = 0; length = 0 }) l ∙ ap (λ k. get_or copy n (record { start = 0; length = 0 }) ∷ drop k copy) one)

-- the next range lies inside the file
pub next_inside : (size low : ℕ) (r : Range) (rs ranges : List Range) (n : ℕ) → drop n ranges ≡ r ∷ rs
    → AreMerged size low (drop n ranges) → AreMerged size low (r ∷ rs)
next_inside size low r rs ranges n e m = subst (λ (xs : List Range). AreMerged size low xs) e m

-- the positions up to the next range are covered
pub counts_more : (size : ℕ) (ranges : List Range) (n at count : ℕ) (r : Range)
    → drop n ranges ≡ r ∷ drop (n + 1) ranges → CountsTo size ranges n at count
    → CountsTo size ranges (n + 1) (r.start + r.length) (count + (r.start - at))
counts_more size ranges n at count r e c =
    let m : AreMerged size at (r ∷ drop (n + 1) ranges) =
    next_inside size at r (drop (n + 1) ranges) ranges n e c.others in
    let end : ℕ = r.start + r.length in
    let k : kept_count (is_excluded (drop n ranges)) at (size - at)
    ≡ (r.start - at) + kept_count (is_excluded (drop (n + 1) ranges)) end (size - end) =
    ap (λ (xs : List Range). kept_count (is_excluded xs) at (size - at)) e
    ∙ kept_next size at r (drop (n + 1) ranges) m in
    record {
      inside = m.2;
      small = omega (arith, c.small, m.0);
      others = merged_lower size (r.start + r.length + 1) (r.start + r.length) (drop (n + 1) ranges) (omega arith) m.3;
      counted = omega (arith, k, c.counted);
    }

-- after the last range all were counted
pub counts_all : (size : ℕ) (ranges : List Range) (n at count : ℕ) → length ranges ≤ n → CountsTo size ranges n at count
    → count + (size - at) ≡ kept_count (is_excluded ranges) 0 size
counts_all size ranges n at count l c =
    ap (λ k. count + k)
    (sym (ap (λ (xs : List Range). kept_count (is_excluded xs) at (size - at)) (drop_all n ranges l) ∙ kept_last size at))
    ∙ c.counted

-- the next range's positions are counted
pub outside_more : (size : ℕ) (ranges : List Range) (start end n count own : ℕ) (r : Range)
    → drop n ranges ≡ r ∷ drop (n + 1) ranges → own ≡ passing (is_out start end) r.start r.length
    → CountsOutside size ranges start end n count → CountsOutside size ranges start end (n + 1) (count + own)
outside_more size ranges start end n count own r e o c =
    let m : AreMerged size 0 (r ∷ drop (n + 1) ranges) =
    next_inside size 0 r (drop (n + 1) ranges) ranges n e c.others in
    let k : passing (is_excluded_out (drop n ranges) start end) 0 size
    ≡ passing (is_out start end) r.start r.length
    + passing (is_excluded_out (drop (n + 1) ranges) start end) 0 size =
    ap (λ (xs : List Range). passing (is_excluded_out xs start end) 0 size) e
    ∙ outside_next size start end r (drop (n + 1) ranges) m in
    record {
      others = merged_lower size (r.start + r.length + 1) 0 (drop (n + 1) ranges) (omega arith) m.3;
      counted = omega (arith, k, o, c.counted);
    }

-- no more are counted than the file has
pub outside_small : (size : ℕ) (ranges : List Range) (start end n count : ℕ)
    → CountsOutside size ranges start end n count → count ≤ size
outside_small size ranges start end n count c =
    omega (arith, c.counted, passing_le (is_excluded_out ranges start end) 0 size)

-- after the last range all outside were counted
pub outside_all : (size : ℕ) (ranges : List Range) (start end n count : ℕ) → length ranges ≤ n
    → CountsOutside size ranges start end n count → count ≡ passing (is_excluded_out ranges start end) 0 size
outside_all size ranges start end n count l c =
    let none : passing (is_excluded_out (drop n ranges) start end) 0 size ≡ 0 =
    ap (λ (xs : List Range). passing (is_excluded_out xs start end) 0 size) (drop_all n ranges l)
    ∙ outside_none size start end in
    omega (arith, none, c.counted)
