-- What a reader has before it, a stretch at a time.
use Rattle.std.proofs.Common.{◌≡◌, ℕ, ◌+◌, ◌-◌, ◌≤◌, Bool, not, List, ◌∷◌, ◌++◌, length, take, drop, sym, ap, ◌∙◌, arith}
use Rattle.std.proofs.lemmas.List.{take-append-drop, length-take-le, length-drop, drop-drop}
use Rattle.c2_base.specs.declared.values.Range.{Range}
use Rattle.c2_spec.specs.Cover.{is_excluded, kept_from}
use Rattle.c2_cover.specs.Covers.{AreMerged, kept_count}
use Rattle.c2_spec.proofs.Kept.{kept_append}
use Rattle.c2_cover.proofs.PassingLemmas.{passing_split, passing_all, passing_none, passing_same}
use Rattle.c2_cover.proofs.MergedLemmas.{excluded_none, excluded_first, excluded_after}

-- the rest of a text, in two parts
pub rest_split : (ex : ℕ → Bool) (at n : ℕ) (file : List ℕ) → at + n ≤ length file
    → kept_from ex at (drop at file) ≡ kept_from ex at (take n (drop at file)) ++ kept_from ex (at + n) (drop (at + n) file)
rest_split ex at n file l =
    let size : length (take n (drop at file)) ≡ n =
    length-take-le n (drop at file) (omega (arith, length-drop at file)) in
    ap (kept_from ex at) (sym (take-append-drop n (drop at file)))
    ∙ kept_append ex at (take n (drop at file)) (drop n (drop at file))
    ∙ ap (λ k. kept_from ex at (take n (drop at file)) ++ kept_from ex (at + k) (drop n (drop at file))) size
    ∙ ap (λ (ys : List ℕ). kept_from ex at (take n (drop at file)) ++ kept_from ex (at + n) ys) (drop-drop n at file)

-- a piece that nothing excludes, counted
pub piece_count : (size low at n : ℕ) (rs : List Range) → AreMerged size low rs → at + n ≤ low → at + n ≤ size
    → kept_count (is_excluded rs) at (size - at) ≡ n + kept_count (is_excluded rs) (at + n) (size - (at + n))
piece_count size low at n rs m l i =
    let e : at + n - at ≡ n = omega arith in
    passing_split (λ k. not (is_excluded rs k)) at (at + n) size (omega arith) i
    ∙ ap (λ k. k + kept_count (is_excluded rs) (at + n) (size - (at + n)))
    (ap (kept_count (is_excluded rs) at) e ∙ passing_all (λ k. not (is_excluded rs k)) at n (λ k a b. ap not (excluded_none size low rs m k (omega arith))))

-- past a range that begins here, counted
pub range_count : (r : Range) (rs : List Range) (at size : ℕ) → at ≡ r.start → r.start + r.length ≤ size
    → kept_count (is_excluded (r ∷ rs)) at (size - at) ≡ kept_count (is_excluded rs) (r.start + r.length) (size - (r.start + r.length))
range_count r rs at size e i =
    let d : r.start + r.length - r.start ≡ r.length = omega arith in
    let z : 0 + kept_count (is_excluded (r ∷ rs)) (r.start + r.length) (size - (r.start + r.length)) ≡ kept_count (is_excluded (r ∷ rs)) (r.start + r.length) (size - (r.start + r.length)) = omega arith in
    ap (λ k. kept_count (is_excluded (r ∷ rs)) k (size - k)) e
    ∙ passing_split (λ k. not (is_excluded (r ∷ rs) k)) r.start (r.start + r.length) size (omega arith) i
    ∙ ap (λ k. k + kept_count (is_excluded (r ∷ rs)) (r.start + r.length) (size - (r.start + r.length)))
    (ap (kept_count (is_excluded (r ∷ rs)) r.start) d ∙ passing_none (λ k. not (is_excluded (r ∷ rs) k)) r.start r.length (λ k a b. ap not (excluded_first r rs k a b)))
    ∙ z
    ∙ passing_same (λ k. not (is_excluded (r ∷ rs) k)) (λ k. not (is_excluded rs k)) (r.start + r.length)
    (size - (r.start + r.length)) (λ k a b. ap not (excluded_after r rs k a))
