-- The first member that passes a test, in lists that are made of lists; and members by their places.
use Rattle.std.proofs.Common.{◌≡◌, ◌⊎◌, inl, inr, ℕ, zero, suc, ◌<◌, Bool, true, false, cond, List, [], ◌∷◌, ◌++◌, Option, Some, None, Contains, slice_get, take, refl, sym, ap, ◌∙◌, subst, arith}
use Rattle.std.specs.List.{find, filter, flat_map}
use Rattle.std.specs.Option.{option_or}
use Rattle.std.proofs.lemmas.Bool.{cases_eq}
use Rattle.std.proofs.lemmas.List.Folds.{find-append}
use Rattle.std.proofs.lemmas.Option.{same_Some}
use Rattle.c2_rules.proofs.ListLemmas.{contains_none, contains_head, contains_tail, contains_cons}
use Rattle.c2_rules.specs.Tests.{downward}
use Rattle.c2_lemmas.proofs.Bools.{true_and_false}

-- ---- cases

-- a condition holds or doesn't
pub bool_cases : (b : Bool) → (b ≡ true) ⊎ (b ≡ false)
bool_cases true = inl refl
bool_cases false = inr refl

-- a value is there or isn't
pub option_cases : {X : Type 0} (o : Option X) → (o ≡ None) ⊎ ((x : X) × (o ≡ Some x))
option_cases None = inl refl
option_cases (Some x) = inr (x, refl)

-- ---- members

-- what a search finds is a member, and passes
find_head : {X : Type 0} (d : X → Bool) (y : X) (ys : List X) (x : X) (b : Bool) → d y ≡ b
    → cond b (Some y) (find d ys) ≡ Some x → (find d ys ≡ Some x → Contains ys x × (d x ≡ true))
    → Contains (y ∷ ys) x × (d x ≡ true)
find_head d y ys x true t e rest =
    let same : y ≡ x = same_Some y x e in
    (subst (Contains (y ∷ ys)) same (contains_head y ys), sym (ap d same) ∙ t)
find_head d y ys x false t e rest = let r = rest e in (contains_tail y x ys r.0, r.1)

-- what a search finds is a member that passes
pub find_says : {X : Type 0} (d : X → Bool) (xs : List X) (x : X) → find d xs ≡ Some x
    → Contains xs x × (d x ≡ true)
find_says d [] x e = absurd cc
find_says d (y ∷ ys) x e = find_head d y ys x (d y) refl e (find_says d ys x)

-- the member at the one place that passes is found
pub find_only : {X : Type 0} (d : X → Bool) (xs : List X) (i : ℕ) (x : X) → slice_get xs i ≡ Some x
    → d x ≡ true
    → ((j : ℕ) (y : X) → slice_get xs j ≡ Some y → d y ≡ true → j ≡ i) → find d xs ≡ Some x
find_only d [] i x e t one = absurd cc
find_only d (y ∷ ys) zero x e t one =
    let same : y ≡ x = same_Some y x e in
    ap (λ b. cond b (Some y) (find d ys)) (ap d same ∙ t) ∙ ap Some same
find_only d (y ∷ ys) (suc i) x e t one =
    elim (bool_cases (d y)) [
      | inl passes ↦ let bad : zero ≡ suc i = one zero y refl passes in absurd (omega arith)
      | inr fails ↦
          ap (λ b. cond b (Some y) (find d ys)) fails
          ∙ find_only d ys i x e t (λ j z at u. let q : suc j ≡ suc i = one (suc j) z at u in omega arith)
    ]

-- what stands in the front of a list stands in the list
pub in_front : {X : Type 0} (xs : List X) (n j : ℕ) (x : X) → slice_get (take n xs) j ≡ Some x
    → slice_get xs j ≡ Some x
in_front [] zero j x e = absurd cc
in_front [] (suc n) j x e = absurd cc
in_front (y ∷ ys) zero j x e = absurd cc
in_front (y ∷ ys) (suc n) zero x e = e
in_front (y ∷ ys) (suc n) (suc j) x e = in_front ys n j x e

-- ---- one list after another

-- of two lists the first that passes is in the first, or in the second where none passes in the first
pub found_append : {X : Type 0} (d : X → Bool) (xs ys : List X) (p : X) → find d (xs ++ ys) ≡ Some p
    → (find d xs ≡ Some p) ⊎ ((find d xs ≡ None) × (find d ys ≡ Some p))
found_append {X} d xs ys p e = by (find d xs) (sym (find-append d xs ys) ∙ e)
  where
    by : (o : Option X) → option_or o (find d ys) ≡ Some p
        → (o ≡ Some p) ⊎ ((o ≡ None) × (find d ys ≡ Some p))
    by None found = inr (refl, found)
    by (Some x) found = inl found

-- where none passes in two lists, none does in either
pub none_append : {X : Type 0} (d : X → Bool) (xs ys : List X) → find d (xs ++ ys) ≡ None
    → (find d xs ≡ None) × (find d ys ≡ None)
none_append {X} d xs ys e = by (find d xs) (sym (find-append d xs ys) ∙ e)
  where
    by : (o : Option X) → option_or o (find d ys) ≡ None → (o ≡ None) × (find d ys ≡ None)
    by None none = (refl, none)
    by (Some x) none = absurd cc

-- what is found in the lists of members is found in that of one of them
pub found_flat : {X Y : Type 0} (d : Y → Bool) (f : X → List Y) (xs : List X) (p : Y)
    → find d (flat_map f xs) ≡ Some p → (x : X) × Contains xs x × (find d (f x) ≡ Some p)
found_flat d f [] p e = absurd cc
found_flat d f (x ∷ xs) p e =
    elim (found_append d (f x) (flat_map f xs) p e) [
      | inl own ↦ (x, contains_head x xs, own)
      | inr rest ↦ let r = found_flat d f xs p rest.1 in (r.0, contains_tail x r.0 xs r.1, r.2)
    ]

-- where none passes in the lists of members, none does in that of any
pub none_flat : {X Y : Type 0} (d : Y → Bool) (f : X → List Y) (xs : List X) → find d (flat_map f xs) ≡ None
    → (x : X) → Contains xs x → find d (f x) ≡ None
none_flat d f [] e x c = absurd (contains_none x c)
none_flat d f (y ∷ xs) e x c =
    let both = none_append d (f y) (flat_map f xs) e in
    elim (contains_cons y x xs c) [
      | inl same ↦ ap (λ z. find d (f z)) (sym same) ∙ both.0
      | inr rest ↦ none_flat d f xs both.1 x rest
    ]

-- ---- the lists of places, the last first

-- The first that passes is in the list of this place, and none passes in those of later places.
pub record FoundBelow {X : Type 0} (d : X → Bool) (list_at : ℕ → List X) (n : ℕ) (p : X) : Type 0 where
  pub place : ℕ
  pub below : place < n
  pub found : find d (list_at place) ≡ Some p
  pub none_later : (j : ℕ) → place < j → j < n → find d (list_at j) ≡ None

-- the first that passes among the lists of one more place
below_more : {X : Type 0} (d : X → Bool) (list_at : ℕ → List X) (n : ℕ) (p : X)
    → (find d (list_at n) ≡ Some p) ⊎ ((find d (list_at n) ≡ None) × (find d (downward list_at n) ≡ Some p))
    → (find d (downward list_at n) ≡ Some p → FoundBelow d list_at n p) → FoundBelow d list_at (suc n) p
below_more d list_at n p (inl own) rest = record {
  place = n;
  below = omega arith;
  found = own;
  none_later = λ j above below. absurd (omega (arith, above, below));
}
below_more d list_at n p (inr more) rest =
    let w = rest more.1 in
    record {
      place = w.place;
      below = let lt = w.below in omega arith;
      found = w.found;
      none_later = λ j above below. elim (cases_eq j n) [
        | inl same ↦ ap (λ k. find d (list_at k)) same ∙ more.0
        | inr other ↦ w.none_later j above (omega arith)
      ];
    }

-- what is found from the last place down is found at one place, and at none after it
pub found_downward : {X : Type 0} (d : X → Bool) (list_at : ℕ → List X) (n : ℕ) (p : X)
    → find d (downward list_at n) ≡ Some p → FoundBelow d list_at n p
found_downward d list_at zero p e = absurd cc
found_downward d list_at (suc n) p e =
    below_more d list_at n p (found_append d (list_at n) (downward list_at n) p e)
    (found_downward d list_at n p)

-- where none passes from the last place down, none does at any
pub none_downward : {X : Type 0} (d : X → Bool) (list_at : ℕ → List X) (n : ℕ)
    → find d (downward list_at n) ≡ None
    → (j : ℕ) → j < n → find d (list_at j) ≡ None
none_downward d list_at zero e j lt = absurd (omega arith)
none_downward d list_at (suc n) e j lt =
    let both = none_append d (list_at n) (downward list_at n) e in
    elim (cases_eq j n) [
      | inl same ↦ ap (λ k. find d (list_at k)) same ∙ both.0
      | inr other ↦ none_downward d list_at n both.1 j (omega arith)
    ]

-- ---- what a filter keeps

-- by whether the first is kept
filter_head : {X : Type 0} (d : X → Bool) (y : X) (ys : List X) (x : X) (b : Bool) → d y ≡ b
    → Contains (cond b (y ∷ filter d ys) (filter d ys)) x
    → (Contains (filter d ys) x → Contains ys x × (d x ≡ true)) → Contains (y ∷ ys) x × (d x ≡ true)
filter_head d y ys x true t c rest =
    elim (contains_cons y x (filter d ys) c) [
      | inl same ↦ (subst (Contains (y ∷ ys)) same (contains_head y ys), sym (ap d same) ∙ t)
      | inr more ↦ let r = rest more in (contains_tail y x ys r.0, r.1)
    ]
filter_head d y ys x false t c rest = let r = rest c in (contains_tail y x ys r.0, r.1)

-- what is kept is a member that passes
pub filter_says : {X : Type 0} (d : X → Bool) (xs : List X) (x : X) → Contains (filter d xs) x
    → Contains xs x × (d x ≡ true)
filter_says d [] x c = absurd (contains_none x c)
filter_says d (y ∷ ys) x c = filter_head d y ys x (d y) refl c (filter_says d ys x)

-- by whether the first is kept
keep_head : {X : Type 0} (d : X → Bool) (y : X) (ys : List X) (x : X) (b : Bool) → d y ≡ b → d x ≡ true
    → (y ≡ x) ⊎ Contains (filter d ys) x → Contains (cond b (y ∷ filter d ys) (filter d ys)) x
keep_head d y ys x true t passes (inl same) =
    subst (Contains (y ∷ filter d ys)) same (contains_head y (filter d ys))
keep_head d y ys x true t passes (inr rest) = contains_tail y x (filter d ys) rest
keep_head d y ys x false t passes (inl same) = true_and_false (d y) (ap d same ∙ passes) t
keep_head d y ys x false t passes (inr rest) = rest

-- a member that passes is kept
pub filter_keeps : {X : Type 0} (d : X → Bool) (xs : List X) (x : X) → Contains xs x → d x ≡ true
    → Contains (filter d xs) x
filter_keeps d [] x c t = absurd (contains_none x c)
filter_keeps d (y ∷ ys) x c t =
    elim (contains_cons y x ys c) [
      | inl same ↦ keep_head d y ys x (d y) refl t (inl same)
      | inr rest ↦ keep_head d y ys x (d y) refl t (inr (filter_keeps d ys x rest t))
    ]

-- ---- the first member

-- by whether the first passes
none_head : {X : Type 0} (d : X → Bool) (x : X) (xs : List X) (b : Bool) → d x ≡ b
    → cond b (Some x) (find d xs) ≡ None → (d x ≡ false) × (find d xs ≡ None)
none_head d x xs true t e = absurd cc
none_head d x xs false t e = (t, e)

-- where none passes, the first doesn't, nor do the others
pub none_cons : {X : Type 0} (d : X → Bool) (x : X) (xs : List X) → find d (x ∷ xs) ≡ None
    → (d x ≡ false) × (find d xs ≡ None)
none_cons d x xs e = none_head d x xs (d x) refl e

-- none at any place does
pub none_at : {X : Type 0} (d : X → Bool) (xs : List X) → find d xs ≡ None → (i : ℕ) (x : X)
    → slice_get xs i ≡ Some x
    → d x ≡ false
none_at d [] e i x is = absurd cc
none_at d (y ∷ ys) e zero x is = ap d (sym (same_Some y x is)) ∙ (none_cons d y ys e).0
none_at d (y ∷ ys) e (suc i) x is = none_at d ys (none_cons d y ys e).1 i x is
