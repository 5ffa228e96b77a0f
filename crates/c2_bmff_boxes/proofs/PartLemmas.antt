-- What a `uuid` box is shows in the first 53 bytes of its payload.
use Rattle.std.proofs.Common.{◌≡◌, ℕ, ◌+◌, ◌-◌, ◌<◌, ◌≤◌, ⊎_elim, min, Bool, true, false, not, cond, ◌&&◌, ◌||◌, ◌==◌, List, [], ◌∷◌, ◌++◌, length, take, drop, codes, Some, None, leb, ltb, refl, sym, ap, ap₂, ◌∙◌, arith}
use Rattle.std.proofs.lemmas.Bool.{le-leb, lt-leb, le-ltb, lt-ltb, cases_lt}
use Rattle.std.proofs.lemmas.List.{take-take, drop-drop, length-drop, length-take, take_all}
use Rattle.std.proofs.lemmas.Slice.Eq.{bytes_eq-Decides}
use Rattle.std.specs.Int.{w32, w64, from_be_bytes}
use Rattle.std.specs.Str.{bytes_eq}
use Rattle.c2_spec.specs.Bmff.Store.{c2pa_user_type, has_store_box, store_len, most_store_bytes}
use Rattle.c2_bmff_rows.proofs.Lists.{piece_of}
use Rattle.c2_bmff_boxes.specs.Provenance.{first_part, payload_part, sized_part, store_by}
use Rattle.c2_bmff_boxes.specs.declared.provenance.Part.{Part}
use Rattle.c2_bmff_boxes.specs.declared.provenance.Part.TheVariants as part

-- bytes that don't reach that far aren't these
pub short_piece : (at : ℕ) (bytes want : List ℕ) → 0 < length want → length bytes < at + length want
    → bytes_eq (take (length want) (drop at bytes)) want ≡ false
short_piece at bytes want some few = go (bytes_eq (take (length want) (drop at bytes)) want) refl
  where
    go : (t : Bool) → bytes_eq (take (length want) (drop at bytes)) want ≡ t
        → bytes_eq (take (length want) (drop at bytes)) want ≡ false
    go true e = absurd (
        let same : take (length want) (drop at bytes) ≡ want =
        (bytes_eq-Decides (take (length want) (drop at bytes)) want).0 e in
        let size : length (take (length want) (drop at bytes)) ≡ length want = ap length same in
        omega (arith, size, few, some, length-take (length want) (drop at bytes), length-drop at bytes))
    go false e = e

-- a piece of the first 53
piece : (from count : ℕ) (xs : List ℕ) → from + count ≤ 53
    → take count (drop from (take 53 xs)) ≡ take count (drop from xs)
piece = piece_of 53

-- the store's box is there, by the numbers in its header
abbrev there : ℕ → ℕ → ℕ → Bool
there left n e =
    leb 8 left && (leb 8 (cond (n == 1) e n) || (n == 1))
    && (not (n == 1) || (leb 16 left && leb 16 (cond (n == 1) e n))) && leb (cond (n == 1) e n) left

-- the tests, by the pieces that they ask for
abbrev whole : List ℕ → List ℕ → List ℕ → Bool → Part → Part
whole a b c found tail =
    cond (not (bytes_eq a c2pa_user_type)) part.Other
    (cond (not (bytes_eq b (0 ∷ 0 ∷ 0 ∷ 0 ∷ []))) part.Bad (cond (not (bytes_eq c (codes "manifest" ++ 0 ∷ []))) part.Other (cond found part.Second tail)))

-- what a C2PA box for a store is, by the payload's length and the two sizes of the store's box
abbrev tail_by : ℕ → ℕ → ℕ → Part
tail_by len n e = cond (ltb len 37) part.Bad (sized_part (cond (there (len - 37) n e) (Some (cond (n == 1) e n)) None))

-- what the first 53 bytes say of a `uuid` box, by the pieces that the tests ask for
by_first : (found : Bool) (len : ℕ) (bytes : List ℕ)
    → first_part found len bytes ≡ whole (take 16 bytes) (take 4 (drop 16 bytes)) (take 9 (drop 20 bytes)) found (tail_by len (from_be_bytes w32 (take 4 (drop 37 bytes))) (from_be_bytes w64 (take 8 (drop 45 bytes))))
unfolding first_part store_by
by_first found len bytes = refl

-- one test of the length for two
tail_cases : (l a b c d : Bool) (t : ℕ)
    → cond (not (l && (a && b && c) && d)) part.Bad (cond (ltb most_store_bytes t) (part.TooLarge t) (part.Holds t)) ≡ cond (not l) part.Bad (sized_part (cond (a && b && c && d) (Some t) None))
tail_cases false a b c d t = refl
tail_cases true false b c d t = refl
tail_cases true true false c d t = refl
tail_cases true true true false d t = refl
tail_cases true true true true false t = refl
tail_cases true true true true true t = refl

-- a content of less than 21 bytes after the user type is a payload of less than 37
few_same : (n : ℕ) → not (leb 21 (n - 16)) ≡ ltb n 37
few_same n =
    ⊎_elim (λ l. ap not (lt-leb 21 (n - 16) (omega (arith, l))) ∙ sym (lt-ltb n 37 l))
    (λ m. ap not (le-leb 21 (n - 16) (omega (arith, m))) ∙ sym (le-ltb n 37 m)) (cases_lt n 37)

-- what the payload says of a `uuid` box, by the same pieces
by_payload : (found : Bool) (p : List ℕ)
    → payload_part found p ≡ whole (take 16 p) (take 4 (drop 16 p)) (take 9 (drop 4 (drop 16 p))) found (tail_by (length p) (from_be_bytes w32 (take 4 (drop 21 (drop 16 p)))) (from_be_bytes w64 (take 8 (drop 8 (drop 21 (drop 16 p))))))
unfolding payload_part
by_payload found p = ap (whole (take 16 p) (take 4 (drop 16 p)) (take 9 (drop 4 (drop 16 p))) found) tail
  where
    n : ℕ
    n = from_be_bytes w32 (take 4 (drop 21 (drop 16 p)))

    e : ℕ
    e = from_be_bytes w64 (take 8 (drop 8 (drop 21 (drop 16 p))))

    content : length (drop 16 p) ≡ length p - 16
    content = length-drop 16 p

    store : length (drop 21 (drop 16 p)) ≡ length p - 37
    store = omega (arith, length-drop 21 (drop 16 p), content)

    tail : cond (not (has_store_box (drop 16 p))) part.Bad
        (cond (ltb most_store_bytes (store_len (drop 16 p))) (part.TooLarge (store_len (drop 16 p))) (part.Holds (store_len (drop 16 p))))
        ≡ tail_by (length p) n e
    tail =
        tail_cases (leb 21 (length (drop 16 p))) (leb 8 (length (drop 21 (drop 16 p))))
        (leb 8 (cond (n == 1) e n) || (n == 1))
        (not (n == 1) || (leb 16 (length (drop 21 (drop 16 p))) && leb 16 (cond (n == 1) e n)))
        (leb (cond (n == 1) e n) (length (drop 21 (drop 16 p)))) (cond (n == 1) e n)
        ∙ ap
        (λ m. cond (not (leb 21 m)) part.Bad (sized_part (cond (there (length (drop 21 (drop 16 p))) n e) (Some (cond (n == 1) e n)) None)))
        content
        ∙ ap
        (λ b. cond b part.Bad (sized_part (cond (there (length (drop 21 (drop 16 p))) n e) (Some (cond (n == 1) e n)) None)))
        (few_same (length p))
        ∙ ap (λ m. cond (ltb (length p) 37) part.Bad (sized_part (cond (there m n e) (Some (cond (n == 1) e n)) None)))
        store

-- the first 53 bytes tell what the payload does
pub part_same : (found : Bool) (p : List ℕ) → first_part found (length p) (take 53 p) ≡ payload_part found p
part_same found p =
    let store : drop 21 (drop 16 p) ≡ drop 37 p = drop-drop 21 16 p in
    let long : drop 8 (drop 21 (drop 16 p)) ≡ drop 45 p = ap (drop 8) store ∙ drop-drop 8 37 p in
    let n : from_be_bytes w32 (take 4 (drop 37 (take 53 p))) ≡ from_be_bytes w32 (take 4 (drop 21 (drop 16 p))) =
    ap (from_be_bytes w32) (piece 37 4 p (omega arith) ∙ ap (take 4) (sym store)) in
    let e : from_be_bytes w64 (take 8 (drop 45 (take 53 p))) ≡ from_be_bytes w64 (take 8 (drop 8 (drop 21 (drop 16 p)))) =
    ap (from_be_bytes w64) (piece 45 8 p (omega arith) ∙ ap (take 8) (sym long)) in
    by_first found (length p) (take 53 p)
    ∙ ap
    (λ (a : List ℕ). whole a (take 4 (drop 16 (take 53 p))) (take 9 (drop 20 (take 53 p))) found (tail_by (length p) (from_be_bytes w32 (take 4 (drop 37 (take 53 p)))) (from_be_bytes w64 (take 8 (drop 45 (take 53 p))))))
    (piece 0 16 p (omega arith))
    ∙ ap
    (λ (b : List ℕ). whole (take 16 p) b (take 9 (drop 20 (take 53 p))) found (tail_by (length p) (from_be_bytes w32 (take 4 (drop 37 (take 53 p)))) (from_be_bytes w64 (take 8 (drop 45 (take 53 p))))))
    (piece 16 4 p (omega arith))
    ∙ ap
    (λ (c : List ℕ). whole (take 16 p) (take 4 (drop 16 p)) c found (tail_by (length p) (from_be_bytes w32 (take 4 (drop 37 (take 53 p)))) (from_be_bytes w64 (take 8 (drop 45 (take 53 p))))))
    (piece 20 9 p (omega arith) ∙ ap (take 9) (sym (drop-drop 4 16 p)))
    ∙ ap₂
    (λ (x y : ℕ). whole (take 16 p) (take 4 (drop 16 p)) (take 9 (drop 4 (drop 16 p))) found (tail_by (length p) x y))
    n e
    ∙ sym (by_payload found p)

-- the first bytes of a part of a list
pub take_first : (n len : ℕ) (xs : List ℕ) → take (min len n) xs ≡ take n (take len xs)
take_first n len xs = ⊎_elim
    (λ l. let m : min len n ≡ len = omega (arith, l) in ap (λ k. take k xs) m ∙ sym (take_all n (take len xs) (omega (arith, l, length-take len xs))))
    (λ g. let m : min len n ≡ n = omega (arith, g) in ap (λ k. take k xs) m ∙ sym (take-take n len xs g))
    (cases_lt len n)
