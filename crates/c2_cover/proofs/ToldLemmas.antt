-- Words between the bytes of a file: a text in two parts, past a range, and its length.
use Rattle.std.proofs.Common.{◌≡◌, ℕ, ◌+◌, ◌-◌, ◌*◌, ◌≤◌, ⊎_elim, Bool, List, [], ◌∷◌, ◌++◌, length, take, drop, sym, ap, ap₂, ◌∙◌, arith, append_assoc, length-append}
use Rattle.std.proofs.Math.Seq.{take-add}
use Rattle.std.proofs.lemmas.Bool.{cases_lt, false≢true}
use Rattle.std.proofs.lemmas.List.{length-take-le, length-drop, drop-drop}
use Rattle.std.specs.Int.{w64, to_be_bytes}
use Rattle.std.specs.Prelude.{not}
use Rattle.c2_base.specs.declared.values.Range.{Range}
use Rattle.c2_spec.specs.Cover.{is_excluded, kept_from}
use Rattle.c2_spec.proofs.Kept.{kept_append, kept_whole, kept_none, kept_same}
use Rattle.c2_cover.specs.Covers.{AreMerged, kept_count}
use Rattle.c2_cover.specs.BoxOffsets.{AreBoxOffsets, told_from}
use Rattle.c2_cover.specs.declared.offsets.BoxOffset.{BoxOffset}
use Rattle.c2_cover.proofs.KeptCount.{length-kept}
use Rattle.c2_cover.proofs.MergedLemmas.{excluded_none, excluded_first, excluded_after}
use Rattle.c2_cover.proofs.PassingLemmas.{passing_split}
use Rattle.c2_cover.proofs.ReadingLemmas.{rest_split}

-- the positions of box offsets rise, from `low` on
abbrev pub Rise : ℕ → List BoxOffset → Type 0
Rise low [] = Unit {0}
Rise low (w ∷ ws) = (low ≤ w.at) × Rise w.at ws

-- box offsets that rise from a position rise from a lower one
pub rise_lower : (low low' : ℕ) (ws : List BoxOffset) → low' ≤ low → Rise low ws → Rise low' ws
rise_lower low low' [] l r = tt
rise_lower low low' (w ∷ ws) l r = (omega (arith, r.0), r.1)

-- the words of a cover rise from the position on
pub words_rise : (size low : ℕ) (rs : List Range) (ws : List BoxOffset) → AreBoxOffsets size rs low ws → Rise low ws
words_rise size low rs [] a = tt
words_rise size low rs (w ∷ ws) a = (a.0, words_rise size w.at rs ws a.3)

-- box offsets that begin later begin at a lower position or later
pub words_lower : (size low low' : ℕ) (rs : List Range) (ws : List BoxOffset) → low' ≤ low
    → AreBoxOffsets size rs low ws → AreBoxOffsets size rs low' ws
words_lower size low low' rs [] l a = tt
words_lower size low low' rs (w ∷ ws) l a = (omega (arith, a.0), a.1, a.2, a.3)

-- past a range, the other ranges leave the positions of box offsets that begin later
words_others : (size low : ℕ) (r : Range) (rs : List Range) (ws : List BoxOffset) → r.start + r.length ≤ low
    → AreBoxOffsets size (r ∷ rs) low ws → AreBoxOffsets size rs low ws
words_others size low r rs [] l a = tt
words_others size low r rs (w ∷ ws) l a = let m : r.start + r.length ≤ w.at = omega (arith, a.0) in (a.0, a.1, sym (excluded_after r rs w.at m) ∙ a.2, words_others size w.at r rs ws m a.3)

-- no box offset stands in the range that begins here
pub words_past : (size : ℕ) (r : Range) (rs : List Range) (ws : List BoxOffset) → AreBoxOffsets size (r ∷ rs) r.start ws
    → AreBoxOffsets size rs (r.start + r.length) ws
words_past size r rs [] a = tt
words_past size r rs (w ∷ ws) a =
    let past : r.start + r.length ≤ w.at =
    ⊎_elim (λ inside. absurd (false≢true (sym a.2 ∙ excluded_first r rs w.at a.0 inside))) (λ m. m)
    (cases_lt w.at (r.start + r.length)) in
    (past, a.1, sym (excluded_after r rs w.at past) ∙ a.2, words_others size w.at r rs ws past a.3)

-- a text in two parts, where no box offset of it stands before the second
pub told_split : (ex : ℕ → Bool) (ws : List BoxOffset) (at mid : ℕ) (file : List ℕ) → Rise mid ws → at ≤ mid
    → mid ≤ length file
    → told_from ex ws at file ≡ kept_from ex at (take (mid - at) (drop at file)) ++ told_from ex ws mid file
told_split ex [] at mid file r l i =
    let e : at + (mid - at) ≡ mid = omega arith in
    rest_split ex at (mid - at) file (omega arith)
    ∙ ap (λ k. kept_from ex at (take (mid - at) (drop at file)) ++ kept_from ex k (drop k file)) e
told_split ex (w ∷ ws) at mid file r l i =
    let rest : List ℕ = drop at file in
    let tail : List ℕ = to_be_bytes w64 w.start ++ told_from ex ws w.at file in
    let e : w.at - at ≡ (mid - at) + (w.at - mid) = omega (arith, r.0) in
    let f : at + (mid - at) ≡ mid = omega arith in
    let size : length (take (mid - at) rest) ≡ mid - at =
    length-take-le (mid - at) rest (omega (arith, length-drop at file)) in
    let place : at + length (take (mid - at) rest) ≡ mid = omega (arith, size) in
    let d : drop (mid - at) rest ≡ drop mid file = drop-drop (mid - at) at file ∙ ap (λ k. drop k file) f in
    ap (λ k. kept_from ex at (take k rest) ++ tail) e
    ∙ ap (λ (ys : List ℕ). kept_from ex at ys ++ tail) (take-add (mid - at) (w.at - mid) rest)
    ∙ ap (λ (ys : List ℕ). ys ++ tail) (kept_append ex at (take (mid - at) rest) (take (w.at - mid) (drop (mid - at) rest))
    ∙ ap (λ (ys : List ℕ). kept_from ex at (take (mid - at) rest) ++ ys) (ap₂ (λ (k : ℕ) (ys : List ℕ). kept_from ex k (take (w.at - mid) ys)) place d))
    ∙ append_assoc (kept_from ex at (take (mid - at) rest)) (kept_from ex mid (take (w.at - mid) (drop mid file))) tail

-- tests that agree from here on leave the same text
pub told_same : (f g : ℕ → Bool) (ws : List BoxOffset) (at : ℕ) (file : List ℕ) → Rise at ws
    → ((i : ℕ) → at ≤ i → f i ≡ g i) → told_from f ws at file ≡ told_from g ws at file
told_same f g [] at file r h = kept_same f g at (drop at file) h
told_same f g (w ∷ ws) at file r h =
    ap (λ (ys : List ℕ). ys ++ (to_be_bytes w64 w.start ++ told_from f ws w.at file))
    (kept_same f g at (take (w.at - at) (drop at file)) h)
    ∙ ap (λ (ys : List ℕ). kept_from g at (take (w.at - at) (drop at file)) ++ (to_be_bytes w64 w.start ++ ys))
    (told_same f g ws w.at file r.1 (λ i l. h i (omega (arith, l, r.0))))

-- a piece in which no range begins and no box offset stands
pub told_piece : (size low at n : ℕ) (rs : List Range) (ws : List BoxOffset) (file : List ℕ) → AreMerged size low rs
    → Rise (at + n) ws → at + n ≤ low → at + n ≤ length file
    → told_from (is_excluded rs) ws at file ≡ take n (drop at file) ++ told_from (is_excluded rs) ws (at + n) file
told_piece size low at n rs ws file m r l i =
    let e : at + n - at ≡ n = omega arith in
    let len : length (take n (drop at file)) ≡ n =
    length-take-le n (drop at file) (omega (arith, length-drop at file)) in
    told_split (is_excluded rs) ws at (at + n) file r (omega arith) i
    ∙ ap (λ (xs : List ℕ). xs ++ told_from (is_excluded rs) ws (at + n) file) (ap (λ k. kept_from (is_excluded rs) at (take k (drop at file))) e
    ∙ kept_whole (is_excluded rs) at (take n (drop at file)) (λ k a b. excluded_none size low rs m k (omega (arith, b, len))))

-- past a range that begins here
pub told_past : (r : Range) (rs : List Range) (ws : List BoxOffset) (at : ℕ) (file : List ℕ) → at ≡ r.start
    → Rise (r.start + r.length) ws → r.start + r.length ≤ length file
    → told_from (is_excluded (r ∷ rs)) ws at file ≡ told_from (is_excluded rs) ws (r.start + r.length) file
told_past r rs ws at file e rise i =
    let n : r.start + r.length - r.start ≡ r.length = omega arith in
    let len : length (take r.length (drop r.start file)) ≡ r.length =
    length-take-le r.length (drop r.start file) (omega (arith, length-drop r.start file)) in
    let ex : ℕ → Bool = is_excluded (r ∷ rs) in
    ap (λ k. told_from ex ws k file) e ∙ told_split ex ws r.start (r.start + r.length) file rise (omega arith) i
    ∙ ap (λ (xs : List ℕ). xs ++ told_from ex ws (r.start + r.length) file) (ap (λ k. kept_from ex r.start (take k (drop r.start file))) n
    ∙ kept_none ex r.start (take r.length (drop r.start file)) (λ k a b. excluded_first r rs k a (omega (arith, b, len))))
    ∙ told_same ex (is_excluded rs) ws (r.start + r.length) file rise (λ k a. excluded_after r rs k a)

-- a text has 8 bytes for each box offset besides those that are kept
pub length-told : (size at : ℕ) (rs : List Range) (ws : List BoxOffset) (file : List ℕ) → AreBoxOffsets size rs at ws
    → length file ≡ size
    → length (told_from (is_excluded rs) ws at file) ≡ kept_count (is_excluded rs) at (size - at) + 8 * length ws
length-told size at rs [] file a e =
    let len : length (drop at file) ≡ size - at = omega (arith, e, length-drop at file) in
    let all : length (kept_from (is_excluded rs) at (drop at file)) ≡ kept_count (is_excluded rs) at (size - at) =
    length-kept (is_excluded rs) at (drop at file) ∙ ap (kept_count (is_excluded rs) at) len in
    omega (arith, all)
length-told size at rs (w ∷ ws) file a e =
    let ex : ℕ → Bool = is_excluded rs in
    let first : List ℕ = kept_from ex at (take (w.at - at) (drop at file)) in
    let more : List ℕ = told_from ex ws w.at file in
    let len : length (take (w.at - at) (drop at file)) ≡ w.at - at =
    length-take-le (w.at - at) (drop at file) (omega (arith, e, a.1, length-drop at file)) in
    let kept : length first ≡ kept_count ex at (w.at - at) =
    length-kept ex at (take (w.at - at) (drop at file)) ∙ ap (kept_count ex at) len in
    let later : length more ≡ kept_count ex w.at (size - w.at) + 8 * length ws =
    length-told size w.at rs ws file a.3 e in
    let parts : length (first ++ (to_be_bytes w64 w.start ++ more)) ≡ length first + length (to_be_bytes w64 w.start ++ more) =
    length-append first (to_be_bytes w64 w.start ++ more) in
    let eight : length (to_be_bytes w64 w.start ++ more) ≡ 8 + length more =
    length-append (to_be_bytes w64 w.start) more in
    let both : kept_count ex at (size - at) ≡ kept_count ex at (w.at - at) + kept_count ex w.at (size - w.at) =
    passing_split (λ k. not (ex k)) at w.at size a.0 (omega (arith, a.1)) in
    omega (arith, parts, eight, kept, later, both)
