-- Rows that are made from the first manifest up say what is reached.
use Rattle.std.proofs.Common.{◌≡◌, ◌⊎◌, inl, inr, ℕ, zero, suc, ◌+◌, ◌<◌, nat_eq, Bool, false, ◌||◌, List, [], ◌∷◌, ◌++◌, length, map, slice_index_or, slice_get, get_or, Option, Some, option_map, refl, sym, ap, ◌∙◌, subst, arith}
use Rattle.std.specs.List.{list_any, range_with_len}
use Rattle.c2_rules.specs.Chains.{children, reaches, reaches_within}
use Rattle.c2_rules.specs.Readings.{Reading, claim_in}
use Rattle.c2_spec.specs.declared.claim.Claim.{Claim}
use Rattle.std.proofs.lemmas.Option.{slice_get-map, slice_get-get_or}
use Rattle.c2_rules.proofs.ListLemmas.{any_same}
use Rattle.c2_rules.proofs.ReachLemmas.{child_earlier, steps_same}
use Rattle.c2_read_manifests.specs.Rows.{bit, row_bits, AreRowsBelow}

-- the rows before say what is reached from children
row_says : (rs : List Reading) (k m : ℕ) (rows : List (List Bool)) → AreRowsBelow rs k rows → m < length rs
    → list_any (λ c. nat_eq c m || bit rows c m) (children rs k) ≡ reaches rs k m
row_says rs k m rows h inside =
    let steps : suc k ≡ k + 1 = omega arith in
    any_same (λ (c : ℕ). nat_eq c m || bit rows c m) (λ (c : ℕ). nat_eq c m || reaches_within rs k c m) (children rs k)
    (λ c there. same c (child_earlier rs k c there))
    ∙ ap (λ (n : ℕ). reaches_within rs n k m) steps
  where
    same : (c : ℕ) → c < k → (nat_eq c m || bit rows c m) ≡ (nat_eq c m || reaches_within rs k c m)
    same c lt = ap (λ (b : Bool). nat_eq c m || b) (h.says c m lt inside ∙ steps_same rs (c + 1) k c m (omega arith) lt)

-- ---- lists by their places

-- the bit at place `m` of bits made for places from `start` on is the one made for `start + m`
mapped : (f : ℕ → Bool) (start n m : ℕ) → m < n
    → slice_index_or (map f (range_with_len start n)) m false ≡ f (start + m)
mapped f start zero m lt = absurd (omega arith)
mapped f start (suc n) zero lt = let e : start ≡ start + 0 = omega arith in ap f e
mapped f start (suc n) (suc m) lt =
    let e : start + 1 + m ≡ start + suc m = omega arith in
    mapped f (start + 1) n m (omega arith) ∙ ap f e

-- a row added at the end leaves the rows before it as they were
pushed_before : (rows : List (List Bool)) (row : List Bool) (n : ℕ) → n < length rows
    → slice_index_or (rows ++ row ∷ []) n [] ≡ slice_index_or rows n []
pushed_before [] row n lt = absurd (omega arith)
pushed_before (x ∷ xs) row zero lt = refl
pushed_before (x ∷ xs) row (suc n) lt = pushed_before xs row n (omega arith)

-- the row added at the end stands at the place after the others
pushed_last : (rows : List (List Bool)) (row : List Bool) → slice_index_or (rows ++ row ∷ []) (length rows) [] ≡ row
pushed_last [] row = refl
pushed_last (x ∷ xs) row = pushed_last xs row

-- the number after `n + 1` is one more than the number after `n`
one_later : (n : ℕ) → suc (n + 1) ≡ suc n + 1
one_later n = omega arith

-- rows with one more at their end are more by one
pushed_length : (rows : List (List Bool)) (row : List Bool) → length (rows ++ row ∷ []) ≡ length rows + 1
pushed_length [] row = refl
pushed_length (x ∷ xs) row = ap suc (pushed_length xs row) ∙ one_later (length xs)

-- ---- one row more

-- a place that is before another or is it stays so when both are counted one further
one_up : (n k : ℕ) → (n < k) ⊎ (n ≡ k) → (suc n < suc k) ⊎ (suc n ≡ suc k)
one_up n k (inl lt) = inl (omega arith)
one_up n k (inr e) = inr (ap suc e)

-- a place before `k + 1` is before `k`, or is `k`
pub earlier_or_last : (n k : ℕ) → n < k + 1 → (n < k) ⊎ (n ≡ k)
earlier_or_last zero zero lt = inr refl
earlier_or_last zero (suc k) lt = inl (omega arith)
earlier_or_last (suc n) zero lt = absurd (omega arith)
earlier_or_last (suc n) (suc k) lt = one_up n k (earlier_or_last n k (omega arith))

-- rows of what the first `k` manifests reach, and the next one's row made from them, are those of the first `k + 1`
pub rows_more : (rs : List Reading) (k : ℕ) (rows given new : List (List Bool)) (row : List Bool)
    → AreRowsBelow rs k rows → given ≡ rows → row ≡ row_bits given (children rs (length given)) (length rs)
    → new ≡ rows ++ row ∷ [] → AreRowsBelow rs (k + 1) new
rows_more rs k rows given new row h same made is = subst (λ (x : List (List Bool)). AreRowsBelow rs (k + 1) x) (sym is) (record { count = pushed_length rows row ∙ ap (λ (n : ℕ). n + 1) h.count; says = says })
  where
    last : (m : ℕ) → m < length rs → bit (rows ++ row ∷ []) (length rows) m ≡ reaches rs (length rows) m
    last m inside =
        let from_start : 0 + m ≡ m = omega arith in
        ap (λ (r : List Bool). slice_index_or r m false)
        (pushed_last rows row ∙ made ∙ ap (λ (x : List (List Bool)). row_bits x (children rs (length x)) (length rs)) same)
        ∙ mapped (λ (x : ℕ). list_any (λ c. nat_eq c x || bit rows c x) (children rs (length rows))) 0 (length rs) m
        inside
        ∙ ap (λ (x : ℕ). list_any (λ c. nat_eq c x || bit rows c x) (children rs (length rows))) from_start
        ∙ row_says rs (length rows) m rows (subst (λ (x : ℕ). AreRowsBelow rs x rows) (sym h.count) h) inside

    by_place : (n m : ℕ) → n < k → m < length rs → bit (rows ++ row ∷ []) n m ≡ reaches rs n m
    by_place n m lt inside =
        let same : length rows ≡ k = h.count in
        ap (λ (r : List Bool). slice_index_or r m false) (pushed_before rows row n (omega arith)) ∙ h.says n m lt inside

    says : (n m : ℕ) → n < k + 1 → m < length rs → bit (rows ++ row ∷ []) n m ≡ reaches rs n m
    says n m lt inside = elim (earlier_or_last n k lt) [
      | inl earlier ↦ by_place n m earlier inside
      | inr here ↦ subst (λ (x : ℕ). bit (rows ++ row ∷ []) x m ≡ reaches rs x m) (h.count ∙ sym here) (last m inside)
    ]

-- ---- the claim at a place

-- the claim of the manifest that was read at a place stands at that place among the claims
pub claim_at : (rs : List Reading) (i : ℕ) (r : Reading) (c : Option Claim) → i < length rs → r ≡ get_or rs i r
    → c ≡ claim_in r → slice_get (map claim_in rs) i ≡ Some c
claim_at rs i r c lt at is =
    slice_get-map claim_in rs i ∙ ap (option_map claim_in) (slice_get-get_or rs i r lt)
    ∙ ap (λ (x : Reading). Some (claim_in x)) (sym at) ∙ ap Some (sym is)
