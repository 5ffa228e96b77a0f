-- The base of a label, place by place.
use Rattle.std.proofs.Common.{◌≡◌, ℕ, ◌+◌, ◌-◌, ◌<◌, Bool, true, false, cond, List, [], ◌∷◌, ◌++◌, length, take, drop, get_or, sym, ap, ◌∙◌, append_assoc, append-nil, arith}
use Rattle.std.proofs.lemmas.List.{drop_more, take_more, take_all, length-drop}
use Rattle.c2_spec.specs.C2pa.Uri.{is_number_suffix, base_of}

-- from a place on, a label's base is empty where a number suffix is, else it begins with the byte there
base_at : (xs : List ℕ) (i : ℕ) (b : Bool) → i < length xs → is_number_suffix (drop i xs) ≡ b
    → base_of (drop i xs) ≡ cond b [] (get_or xs i 0 ∷ base_of (drop (i + 1) xs))
base_at xs i b lt is =
    let here = drop_more xs i 0 lt in
    ap base_of here
    ∙ ap (λ c. cond c [] (get_or xs i 0 ∷ base_of (drop (i + 1) xs))) (sym (ap is_number_suffix here) ∙ is)

-- where a number suffix is, what was passed is the base
pub base_here : (xs : List ℕ) (i : ℕ) → i < length xs → take i xs ++ base_of (drop i xs) ≡ base_of xs
    → is_number_suffix (drop i xs) ≡ true → take i xs ≡ base_of xs
base_here xs i lt so_far is =
    sym (append-nil (take i xs)) ∙ ap (λ ys. take i xs ++ ys) (sym (base_at xs i true lt is)) ∙ so_far

-- where none is, one more byte belongs to the base
pub base_next : (xs : List ℕ) (i : ℕ) → i < length xs → take i xs ++ base_of (drop i xs) ≡ base_of xs
    → is_number_suffix (drop i xs) ≡ false → take (i + 1) xs ++ base_of (drop (i + 1) xs) ≡ base_of xs
base_next xs i lt so_far is =
    ap (λ ys. ys ++ base_of (drop (i + 1) xs)) (take_more xs i 0 lt)
    ∙ append_assoc (take i xs) (get_or xs i 0 ∷ []) (base_of (drop (i + 1) xs))
    ∙ ap (λ ys. take i xs ++ ys) (sym (base_at xs i false lt is)) ∙ so_far

-- the bytes from a place up to the end are those from it on
pub number_at : (xs : List ℕ) (i : ℕ) (b : Bool) → b ≡ is_number_suffix (take (length xs - i) (drop i xs))
    → is_number_suffix (drop i xs) ≡ b
number_at xs i b e =
    ap is_number_suffix (sym (take_all (length xs - i) (drop i xs) (omega (arith, length-drop i xs)))) ∙ sym e
