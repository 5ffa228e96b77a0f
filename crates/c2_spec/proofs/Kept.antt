-- Laws of the bytes that a test on positions leaves.
use Rattle.std.proofs.Common.{◌≡◌, ℕ, suc, ◌+◌, ◌<◌, ◌≤◌, ◌⊎◌, inl, inr, Bool, not, ◌||◌, true, false, cond, List, [], ◌∷◌, ◌++◌, length, map, take, drop, leb, ltb, refl, sym, ap, ap₂, ◌∙◌, arith}
use Rattle.std.proofs.lemmas.Bool.{le-leb, lt-leb, lt-ltb, le-ltb, and_from, and_left, and_right}
use Rattle.std.proofs.lemmas.List.{take-append-drop, length-take-le, length-drop, drop-drop}
use Rattle.std.specs.Prelude.{filter}
use Rattle.std.specs.List.{enumerate_from}
use Rattle.c2_base.specs.declared.values.Range.{Range}
use Rattle.c2_spec.specs.Cover.{data_text, holds, is_excluded, kept_from}

-- the first byte, where it is kept, and then the others
pub kept_cons : (ex : ℕ → Bool) (at x : ℕ) (xs : List ℕ)
    → kept_from ex at (x ∷ xs) ≡ cond (not (ex at)) (x ∷ kept_from ex (at + 1) xs) (kept_from ex (at + 1) xs)
kept_cons ex at x xs = go (not (ex at))
  where
    go : (b : Bool)
        → map (λ (p : ℕ × ℕ). p.1) (cond b ((at, x) ∷ filter (λ (p : ℕ × ℕ). not (ex p.0)) (enumerate_from (at + 1) xs)) (filter (λ (p : ℕ × ℕ). not (ex p.0)) (enumerate_from (at + 1) xs)))
        ≡ cond b (x ∷ kept_from ex (at + 1) xs) (kept_from ex (at + 1) xs)
    go true = refl
    go false = refl

-- a part that nothing excludes is kept whole
pub kept_whole : (ex : ℕ → Bool) (at : ℕ) (xs : List ℕ) → ((i : ℕ) → at ≤ i → i < at + length xs → ex i ≡ false)
    → kept_from ex at xs ≡ xs
kept_whole ex at [] h = refl
kept_whole ex at (x ∷ xs) h =
    kept_cons ex at x xs
    ∙ ap (λ b. cond (not b) (x ∷ kept_from ex (at + 1) xs) (kept_from ex (at + 1) xs))
    (h at (omega arith) (omega arith))
    ∙ ap (λ (ys : List ℕ). x ∷ ys) (kept_whole ex (at + 1) xs (λ i l m. h i (omega arith) (omega arith)))

-- a part that is excluded whole gives nothing
pub kept_none : (ex : ℕ → Bool) (at : ℕ) (xs : List ℕ) → ((i : ℕ) → at ≤ i → i < at + length xs → ex i ≡ true)
    → kept_from ex at xs ≡ []
kept_none ex at [] h = refl
kept_none ex at (x ∷ xs) h =
    kept_cons ex at x xs
    ∙ ap (λ b. cond (not b) (x ∷ kept_from ex (at + 1) xs) (kept_from ex (at + 1) xs))
    (h at (omega arith) (omega arith))
    ∙ kept_none ex (at + 1) xs (λ i l m. h i (omega arith) (omega arith))

-- tests that agree from here on keep the same bytes
pub kept_same : (f g : ℕ → Bool) (at : ℕ) (xs : List ℕ) → ((i : ℕ) → at ≤ i → f i ≡ g i)
    → kept_from f at xs ≡ kept_from g at xs
kept_same f g at [] h = refl
kept_same f g at (x ∷ xs) h =
    kept_cons f at x xs
    ∙ ap (λ b. cond (not b) (x ∷ kept_from f (at + 1) xs) (kept_from f (at + 1) xs)) (h at (omega arith))
    ∙ ap (λ (ys : List ℕ). cond (not (g at)) (x ∷ ys) ys) (kept_same f g (at + 1) xs (λ i l. h i (omega arith)))
    ∙ sym (kept_cons g at x xs)

-- a position said in two ways
shift_one : (ex : ℕ → Bool) (at n : ℕ) (ys : List ℕ) → kept_from ex (at + 1 + n) ys ≡ kept_from ex (at + suc n) ys
shift_one ex at n ys = let e : at + 1 + n ≡ at + suc n = omega arith in ap (λ k. kept_from ex k ys) e

-- the kept bytes of a list in two parts
pub kept_append : (ex : ℕ → Bool) (at : ℕ) (xs ys : List ℕ)
    → kept_from ex at (xs ++ ys) ≡ kept_from ex at xs ++ kept_from ex (at + length xs) ys
kept_append ex at [] ys = let e : at ≡ at + 0 = omega arith in ap (λ k. kept_from ex k ys) e
kept_append ex at (x ∷ xs) ys =
    kept_cons ex at x (xs ++ ys)
    ∙ ap (λ (zs : List ℕ). cond (not (ex at)) (x ∷ zs) zs)
    (kept_append ex (at + 1) xs ys ∙ ap (λ (zs : List ℕ). kept_from ex (at + 1) xs ++ zs) (shift_one ex at (length xs) ys))
    ∙ go (not (ex at)) x (kept_from ex (at + 1) xs) (kept_from ex (at + suc (length xs)) ys)
    ∙ ap (λ (zs : List ℕ). zs ++ kept_from ex (at + suc (length xs)) ys) (sym (kept_cons ex at x xs))
  where
    go : (b : Bool) (x : ℕ) (us vs : List ℕ) → cond b (x ∷ (us ++ vs)) (us ++ vs) ≡ cond b (x ∷ us) us ++ vs
    go true x us vs = refl
    go false x us vs = refl

-- what one range leaves are the bytes before it and those after it
pub kept_around : (r : Range) (file : List ℕ) → r.start + r.length ≤ length file
    → data_text (r ∷ []) file ≡ take r.start file ++ drop (r.start + r.length) file
kept_around r file fits =
    let ex : ℕ → Bool = is_excluded (r ∷ []) in
    let rest : List ℕ = drop r.start file in
    let first : length (take r.start file) ≡ r.start = length-take-le r.start file (omega (arith, fits)) in
    let inner : length (take r.length rest) ≡ r.length =
    length-take-le r.length rest (omega (arith, fits, length-drop r.start file)) in
    let before : kept_from ex 0 (take r.start file) ≡ take r.start file =
    kept_whole ex 0 (take r.start file) (λ i l m. one_range_not r i (inl (omega (arith, m, first)))) in
    let inside : kept_from ex (0 + length (take r.start file)) (take r.length rest) ≡ [] =
    kept_none ex (0 + length (take r.start file)) (take r.length rest)
    (λ i l m. one_range_in r i (omega (arith, l, first)) (omega (arith, m, first, inner))) in
    let after : kept_from ex (0 + length (take r.start file) + length (take r.length rest))
    (drop r.length rest)
    ≡ drop r.length rest =
    kept_whole ex (0 + length (take r.start file) + length (take r.length rest)) (drop r.length rest)
    (λ i l m. one_range_not r i (inr (omega (arith, l, first, inner)))) in
    ap (kept_from ex 0) (sym (take-append-drop r.start file)) ∙ kept_append ex 0 (take r.start file) rest
    ∙ ap₂ (λ (xs ys : List ℕ). xs ++ ys) before
    (ap (kept_from ex (0 + length (take r.start file))) (sym (take-append-drop r.length rest)) ∙ kept_append ex (0 + length (take r.start file)) (take r.length rest) (drop r.length rest)
    ∙ ap₂ (λ (xs ys : List ℕ). xs ++ ys) inside after)
    ∙ ap (λ (ys : List ℕ). take r.start file ++ ys) (drop-drop r.length r.start file)
  where
    none_more : (b : Bool) → (b || false) ≡ b
    none_more true = refl
    none_more false = refl

    one_range_in : (r : Range) (i : ℕ) → r.start ≤ i → i < r.start + r.length → is_excluded (r ∷ []) i ≡ true
    one_range_in r i l m =
        none_more (holds i r)
        ∙ and_from (leb r.start i) (ltb i (r.start + r.length)) (le-leb r.start i l) (lt-ltb i (r.start + r.length) m)

    one_range_not : (r : Range) (i : ℕ) → (i < r.start) ⊎ (r.start + r.length ≤ i) → is_excluded (r ∷ []) i ≡ false
    one_range_not r i (inl l) =
        none_more (holds i r) ∙ and_left (leb r.start i) (ltb i (r.start + r.length)) (lt-leb r.start i l)
    one_range_not r i (inr l) =
        none_more (holds i r) ∙ and_right (leb r.start i) (ltb i (r.start + r.length)) (le-ltb i (r.start + r.length) l)
