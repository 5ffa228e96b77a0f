-- The first of a list that passes a test, those that do, and the first refusal, from one member to the next.
use Rattle.std.proofs.Common.{◌≡◌, ℕ, ◌+◌, ◌<◌, Bool, true, false, cond, List, [], ◌∷◌, ◌++◌, length, drop, get_or, Option, Some, None, sym, ap, ◌∙◌, append_assoc, append-nil}
use Rattle.std.specs.List.{filter, find, flat_map}
use Rattle.std.specs.Option.{option_or}
use Rattle.std.proofs.lemmas.List.{drop_more}
use Rattle.std.proofs.Math.Seq.{drop-length}
use Rattle.c2_spec.specs.C2pa.Manifest.{StoreTest, first_refusal}
use Rattle.c2_spec.proofs.StoreRefusals.{first_refusal_append}
use Rattle.c2_spec.specs.declared.store.StoreError.{StoreError}

-- a function of what is left of a list, one member on
here : {X Y : Type 0} (F : List X → Y) (xs : List X) (i : ℕ) (d : X) → i < length xs
    → F (drop i xs) ≡ F (get_or xs i d ∷ drop (i + 1) xs)
here F xs i d lt = ap F (drop_more xs i d lt)

-- ---- find

-- a member that passes, with none before it, is the one that is found
pub find_here : {X : Type 0} (p : X → Bool) (xs : List X) (i : ℕ) (d : X) → i < length xs
    → find p xs ≡ find p (drop i xs) → p (get_or xs i d) ≡ true → Some (get_or xs i d) ≡ find p xs
find_here p xs i d lt so_far is =
    sym (so_far ∙ here (find p) xs i d lt ∙ ap (λ b. cond b (Some (get_or xs i d)) (find p (drop (i + 1) xs))) is)

-- a member that doesn't pass leaves the search to the members after it
pub find_next : {X : Type 0} (p : X → Bool) (xs : List X) (i : ℕ) (d : X) → i < length xs
    → find p xs ≡ find p (drop i xs) → p (get_or xs i d) ≡ false → find p xs ≡ find p (drop (i + 1) xs)
find_next p xs i d lt so_far is =
    so_far ∙ here (find p) xs i d lt ∙ ap (λ b. cond b (Some (get_or xs i d)) (find p (drop (i + 1) xs))) is

-- at the end nothing was found
pub find_none : {X : Type 0} (p : X → Bool) (xs : List X) → find p xs ≡ find p (drop (length xs) xs)
    → ◌≡◌ {A = Option X} None (find p xs)
find_none p xs so_far = sym (so_far ∙ ap (find p) (drop-length xs))

-- ---- filter

-- a member that passes is picked
pub filter_here : {X : Type 0} (p : X → Bool) (xs found : List X) (i : ℕ) (d : X) → i < length xs
    → found ++ filter p (drop i xs) ≡ filter p xs → p (get_or xs i d) ≡ true
    → (found ++ get_or xs i d ∷ []) ++ filter p (drop (i + 1) xs) ≡ filter p xs
filter_here p xs found i d lt so_far is =
    append_assoc found (get_or xs i d ∷ []) (filter p (drop (i + 1) xs))
    ∙ ap (λ ys. found ++ ys)
    (sym (here (filter p) xs i d lt ∙ ap (λ b. cond b (get_or xs i d ∷ filter p (drop (i + 1) xs)) (filter p (drop (i + 1) xs))) is))
    ∙ so_far

-- a member that doesn't pass isn't
pub filter_next : {X : Type 0} (p : X → Bool) (xs found : List X) (i : ℕ) (d : X) → i < length xs
    → found ++ filter p (drop i xs) ≡ filter p xs → p (get_or xs i d) ≡ false
    → found ++ filter p (drop (i + 1) xs) ≡ filter p xs
filter_next p xs found i d lt so_far is =
    ap (λ ys. found ++ ys)
    (sym (here (filter p) xs i d lt ∙ ap (λ b. cond b (get_or xs i d ∷ filter p (drop (i + 1) xs)) (filter p (drop (i + 1) xs))) is))
    ∙ so_far

-- the members that pass are picked up to the next one, by whether this one passes
pub filter_step : {X : Type 0} (p : X → Bool) (xs found more : List X) (i : ℕ) (d : X) (b : Bool) → i < length xs
    → found ++ filter p (drop i xs) ≡ filter p xs → b ≡ p (get_or xs i d)
    → more ≡ cond b (found ++ get_or xs i d ∷ []) found
    → more ++ filter p (drop (i + 1) xs) ≡ filter p xs
filter_step p xs found more i d true lt so_far is e =
    ap (λ ys. ys ++ filter p (drop (i + 1) xs)) e ∙ filter_here p xs found i d lt so_far (sym is)
filter_step p xs found more i d false lt so_far is e =
    ap (λ ys. ys ++ filter p (drop (i + 1) xs)) e ∙ filter_next p xs found i d lt so_far (sym is)

-- at the end all that pass are picked
pub filter_all : {X : Type 0} (p : X → Bool) (xs found : List X) → found ++ filter p (drop (length xs) xs) ≡ filter p xs
    → found ≡ filter p xs
filter_all p xs found so_far = sym (append-nil found) ∙ ap (λ ys. found ++ filter p ys) (sym (drop-length xs)) ∙ so_far

-- ---- refusals

-- the refusals from a member on are its own and those of the members after it
refusal_at : {X : Type 0} (tests : X → List StoreTest) (xs : List X) (i : ℕ) (d : X) → i < length xs
    → first_refusal (flat_map tests (drop i xs)) ≡ option_or (first_refusal (tests (get_or xs i d))) (first_refusal (flat_map tests (drop (i + 1) xs)))
refusal_at tests xs i d lt =
    here (λ ys. first_refusal (flat_map tests ys)) xs i d lt
    ∙ first_refusal_append (tests (get_or xs i d)) (flat_map tests (drop (i + 1) xs))

-- where no member before this one is refused and this one is, its refusal is that of the list
pub refusal_here : {X : Type 0} (tests : X → List StoreTest) (xs : List X) (i : ℕ) (d : X) (e : StoreError)
    → i < length xs
    → first_refusal (flat_map tests xs) ≡ first_refusal (flat_map tests (drop i xs))
    → Some e ≡ first_refusal (tests (get_or xs i d)) → Some e ≡ first_refusal (flat_map tests xs)
refusal_here tests xs i d e lt so_far is =
    sym
    (so_far ∙ refusal_at tests xs i d lt ∙ ap (λ o. option_or o (first_refusal (flat_map tests (drop (i + 1) xs)))) (sym is))

-- where this member isn't refused, the refusal of the list is that of the members after it
pub refusal_next : {X : Type 0} (tests : X → List StoreTest) (xs : List X) (i : ℕ) (d : X) → i < length xs
    → first_refusal (flat_map tests xs) ≡ first_refusal (flat_map tests (drop i xs))
    → None ≡ first_refusal (tests (get_or xs i d))
    → first_refusal (flat_map tests xs) ≡ first_refusal (flat_map tests (drop (i + 1) xs))
refusal_next tests xs i d lt so_far is =
    so_far ∙ refusal_at tests xs i d lt
    ∙ ap (λ o. option_or o (first_refusal (flat_map tests (drop (i + 1) xs)))) (sym is)
