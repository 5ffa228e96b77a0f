-- Marks: a number, a list and a second number. Where they are sorted, those that repeat one another stand side by side.
use Rattle.std.proofs.Common.{Bool, IsSorted, List, None, Option, Some, [], ap, arith, false, get_or, inl, inr, is_lt, length, ltb, ltb-false, ltb-true, map, min, refl, slice_index_or, subst, suc, sym, true, zero, ℕ, ◌+◌, ◌-◌, ◌<◌, ◌∙◌, ◌∷◌, ◌≡◌, ◌≤◌, ◌⊎◌}
use Rattle.std.proofs.lemmas.Cmp.{nat_cmp_total, nat_list_cmp_total}
use Rattle.std.proofs.lemmas.List.{get_or-map, length-map}
use Rattle.std.proofs.lemmas.List.Sorted.{ranks_by, sorted_far}
use Rattle.std.specs.Cmp.{IsStrictWeakOrder, IsTotalOrder, on_total, ranks, then_total, tied_itself}
use Rattle.std.specs.Cmp.Lexicographic.{slice_cmp}
use Rattle.std.specs.FinMap.{nat_cmp-IsAntisymmetric, slice_cmp-IsAntisymmetric}
use Rattle.std.specs.Ordering.{nat_cmp, ordering_reverse, ordering_then}
use Rattle.std.specs.declared.cmp.Ordering.{Ordering}
use Rattle.c2_lemmas.proofs.Numbers.{lifted, lowered, squeezed, tied_first}

-- ---- marks

-- a number, a list, and a second number
abbrev pub Mark : Type 0
Mark = ℕ × List ℕ × ℕ

-- by the first number, then the list, then the second number
abbrev pub mark_cmp : Mark → Mark → Ordering
mark_cmp x y = ordering_then (ordering_then (nat_cmp x.0 y.0) (slice_cmp nat_cmp x.1 y.1)) (nat_cmp x.2 y.2)

-- the mark at a place
abbrev pub mark_at : List Mark → ℕ → Mark
mark_at ms i = slice_index_or ms i (0, [], 0)

-- y has x's first number and list, and a greater second number
abbrev pub Repeats : Mark → Mark → Type 0
Repeats x y = (x.0 ≡ y.0) × (x.1 ≡ y.1) × (x.2 < y.2)

-- the mark behind a place repeats the one there
abbrev pub RepeatsAt : List Mark → ℕ → Type 0
RepeatsAt ms i = Repeats (mark_at ms i) (mark_at ms (suc i))

-- the least second number of those that repeat the one before them, of the first n
abbrev pub LeastRepeated : List Mark → ℕ → Option ℕ → Type 0
LeastRepeated ms n None = (i : ℕ) → suc i < n → RepeatsAt ms i → ⊥
LeastRepeated ms n (Some j) =
    ((i : ℕ) × (suc i < n) × RepeatsAt ms i × (j ≡ (mark_at ms (suc i)).2))
    × ((i : ℕ) → suc i < n → RepeatsAt ms i → j ≤ (mark_at ms (suc i)).2)

-- the lesser of two numbers, of which the first may be missing
abbrev pub lesser_of : Option ℕ → ℕ → ℕ
lesser_of None n = n
lesser_of (Some m) n = min m n

-- ---- the order of marks

-- one mark comes before another
abbrev lt : Mark → Mark → Bool
lt x y = is_lt (mark_cmp x y)

-- marks are totally ordered
pub marks_total : IsTotalOrder mark_cmp
marks_total =
    then_total
    (then_total (on_total (λ (m : Mark). m.0) nat_cmp_total) (on_total (λ (m : Mark). m.1) nat_list_cmp_total))
    (on_total (λ (m : Mark). m.2) nat_cmp_total)

-- so they can be sorted
marks_weak : IsStrictWeakOrder lt
marks_weak = ranks_by marks_total (λ (m : Mark). m)

-- a number that the order of numbers doesn't put before another isn't less than it
not_less : (m n : ℕ) → is_lt (nat_cmp m n) ≡ false → n ≤ m
not_less m n e = lifted (nat_cmp m n) m n (ranks m n) e

-- the order of numbers puts a lesser number first
less : (m n : ℕ) → m < n → is_lt (nat_cmp m n) ≡ true
less m n l = lowered (nat_cmp m n) m n (ranks m n) l

-- a mark comes before one that repeats it
repeats_less : (x y : Mark) → Repeats x y → lt x y ≡ true
repeats_less x y r =
    tied_first (nat_cmp x.0 y.0) (slice_cmp nat_cmp x.1 y.1) (nat_cmp x.2 y.2)
    (ap (nat_cmp x.0) (sym r.0) ∙ tied_itself nat_cmp_total x.0)
    (ap (slice_cmp nat_cmp x.1) (sym r.1) ∙ tied_itself nat_list_cmp_total x.1)
    ∙ less x.2 y.2 r.2

-- what stands between two marks with one first number and one list
between : (a b c : Mark) → a.0 ≡ c.0 → a.1 ≡ c.1 → lt b a ≡ false → lt c b ≡ false
    → (a.0 ≡ b.0) × (a.1 ≡ b.1) × (a.2 ≤ b.2) × (b.2 ≤ c.2)
between a b c e f p q =
    let back0 : nat_cmp c.0 b.0 ≡ ordering_reverse (nat_cmp b.0 a.0) =
    ap (λ x. nat_cmp x b.0) (sym e) ∙ nat_cmp_total.antisymm a.0 b.0 in
    let back1 : slice_cmp nat_cmp c.1 b.1 ≡ ordering_reverse (slice_cmp nat_cmp b.1 a.1) =
    ap (λ x. slice_cmp nat_cmp x b.1) (sym f) ∙ nat_list_cmp_total.antisymm a.1 b.1 in
    let q2 : is_lt (ordering_then (ordering_then (ordering_reverse (nat_cmp b.0 a.0)) (ordering_reverse (slice_cmp nat_cmp b.1 a.1))) (nat_cmp c.2 b.2)) ≡ false =
    ap (λ x. is_lt (ordering_then (ordering_then x (ordering_reverse (slice_cmp nat_cmp b.1 a.1))) (nat_cmp c.2 b.2))) (sym back0) ∙ ap (λ x. is_lt (ordering_then (ordering_then (nat_cmp c.0 b.0) x) (nat_cmp c.2 b.2))) (sym back1) ∙ q in
    let all = squeezed (nat_cmp b.0 a.0) (slice_cmp nat_cmp b.1 a.1) (nat_cmp b.2 a.2) (nat_cmp c.2 b.2) p q2 in
    (sym (nat_cmp-IsAntisymmetric b.0 a.0 all.0), sym (slice_cmp-IsAntisymmetric nat_cmp-IsAntisymmetric b.1 a.1 all.1), not_less b.2 a.2 all.2, not_less c.2 b.2 all.3)

module _ (ms : List Mark) (up : IsSorted mark_cmp ms) where
  -- a mark that repeats another has one between them, or is it, that repeats the one right before it
  pub repeats_between : (n i j : ℕ) → j ≡ i + n → j < length ms → Repeats (mark_at ms i) (mark_at ms j)
      → (k : ℕ) × (suc k < length ms) × RepeatsAt ms k × ((mark_at ms (suc k)).2 ≤ (mark_at ms j).2)
  repeats_between zero i j e l r =
      let same : j ≡ i = omega (arith, e) in
      let rises : (mark_at ms i).2 < (mark_at ms i).2 = subst (λ x. (mark_at ms i).2 < (mark_at ms x).2) same r.2 in
      let never : ⊥ = omega (arith, rises) in absurd never
  repeats_between (suc n) i j e l r =
      let next = between (mark_at ms i) (mark_at ms (suc i)) (mark_at ms j) r.0 r.1
      (sorted_far lt marks_weak ms up i (suc i) (0, [], 0) (omega arith) (omega (arith, e, l))) (sorted_far lt marks_weak ms up (suc i) j (0, [], 0) (omega (arith, e)) l) in
      elim (ltb (mark_at ms i).2 (mark_at ms (suc i)).2) as (λ b. ltb (mark_at ms i).2 (mark_at ms (suc i)).2 ≡ b → (k : ℕ) × (suc k < length ms) × RepeatsAt ms k × ((mark_at ms (suc k)).2 ≤ (mark_at ms j).2)) [
        | true ↦ λ h. (i, omega (arith, e, l), (next.0, next.1, ltb-true _ _ h), next.3)
        | false ↦ λ h. repeats_between n (suc i) j (omega (arith, e)) l (sym next.0 ∙ r.0, sym next.1 ∙ r.1, omega (arith, ltb-false _ _ h, next.2, r.2))
      ] refl

  -- one that repeats another stands behind it
  pub stands_behind : (i j : ℕ) → i < length ms → j < length ms → Repeats (mark_at ms i) (mark_at ms j) → i < j
  stands_behind i j l m r =
      elim (ltb i j) as (λ b. ltb i j ≡ b → i < j) [
        | true ↦ λ h. ltb-true i j h
        | false ↦ λ h. let clash : true ≡ false = sym (repeats_less (mark_at ms i) (mark_at ms j) r) ∙ sorted_far lt marks_weak ms up j i (0, [], 0) (ltb-false i j h) l in absurd cc
      ] refl

-- ---- one more mark

-- one more mark that repeats none
least_skip : (ms : List Mark) (m n : ℕ) (r : Option ℕ) → n ≡ m + 1 → (RepeatsAt ms m → ⊥) → LeastRepeated ms n r
    → LeastRepeated ms (n + 1) r
least_skip ms m n None e not h = λ i l r. elim (ltb (suc i) n) as (λ b. ltb (suc i) n ≡ b → ⊥) [
  | true ↦ λ t. h i (ltb-true (suc i) n t) r
  | false ↦ λ t. let same : i ≡ m = omega (arith, e, l, ltb-false (suc i) n t) in not (subst (RepeatsAt ms) same r)
] refl
least_skip ms m n (Some k) e not h = (
  (h.0.0, omega (arith, h.0.1), h.0.2, h.0.3),
  λ i l r. elim (ltb (suc i) n) as (λ b. ltb (suc i) n ≡ b → k ≤ (mark_at ms (suc i)).2) [
    | true ↦ λ t. h.1 i (ltb-true (suc i) n t) r
    | false ↦ λ t. let same : i ≡ m = omega (arith, e, l, ltb-false (suc i) n t) in absurd (not (subst (RepeatsAt ms) same r))
  ] refl,
)

-- one more mark that repeats the one before it
least_take : (ms : List Mark) (m n : ℕ) (r : Option ℕ) (k : ℕ) → n ≡ m + 1 → RepeatsAt ms m
    → k ≡ (mark_at ms (suc m)).2 → LeastRepeated ms n r → LeastRepeated ms (n + 1) (Some (lesser_of r k))
least_take ms m n None k e here is h = (
  (m, omega (arith, e), here, is),
  λ i l r. elim (ltb (suc i) n) as (λ b. ltb (suc i) n ≡ b → k ≤ (mark_at ms (suc i)).2) [
    | true ↦ λ t. absurd (h i (ltb-true (suc i) n t) r)
    | false ↦ λ t. let same : i ≡ m = omega (arith, e, l, ltb-false (suc i) n t) in subst (λ x. k ≤ (mark_at ms (suc x)).2) (sym same) (omega (arith, is))
  ] refl,
)
least_take ms m n (Some j) k e here is h =
    let first : (min j k ≡ j) ⊎ (min j k ≡ k) = elim (ltb j k) as (λ b. ltb j k ≡ b → (min j k ≡ j) ⊎ (min j k ≡ k)) [ true ↦ λ t. inl (omega (arith, ltb-true j k t)) | false ↦ λ t. inr (omega (arith, ltb-false j k t)) ] refl in (
      elim first [
        | inl q ↦ (h.0.0, omega (arith, h.0.1), h.0.2, q ∙ h.0.3)
        | inr q ↦ (m, omega (arith, e), here, q ∙ is)
      ],
      λ i l r. elim (ltb (suc i) n) as (λ b. ltb (suc i) n ≡ b → min j k ≤ (mark_at ms (suc i)).2) [
        | true ↦ λ t. omega (arith, h.1 i (ltb-true (suc i) n t) r)
        | false ↦ λ t. let same : i ≡ m = omega (arith, e, l, ltb-false (suc i) n t) in subst (λ x. min j k ≤ (mark_at ms (suc x)).2) (sym same) (omega (arith, is))
      ] refl,
    )

-- ---- marks that are made of the members of a list

-- the images of a list are in order where its members are in the order of their images
pub sorted_map : {X Y : Type 0} (cmp : Y → Y → Ordering) (f : X → Y) (xs : List X)
    → IsSorted (λ x y. cmp (f x) (f y)) xs → IsSorted cmp (map f xs)
sorted_map cmp f [] up k d lo l = let never : ⊥ = omega (arith, l) in absurd never
sorted_map cmp f (x ∷ xs) up k d lo l =
    let long : k + 1 < length (x ∷ xs) = omega (arith, l, length-map (x ∷ xs) f) in
    ap (λ y. is_lt (cmp y (get_or (map f (x ∷ xs)) k d))) (get_or-map f (x ∷ xs) (k + 1) x d long)
    ∙ ap (λ y. is_lt (cmp (f (get_or (x ∷ xs) (k + 1) x)) y)) (get_or-map f (x ∷ xs) k x d (omega (arith, long)))
    ∙ up k x lo long

-- the mark that is made of the member at a place
made_at : {X : Type 0} (f : X → Mark) (xs : List X) (i : ℕ) (d : X) → i < length xs
    → f (get_or xs i d) ≡ mark_at (map f xs) i
made_at f xs i d l = sym (get_or-map f xs i d (0, [], 0) l)

module _ {X : Type 0} (f : X → Mark) (xs : List X) (n : ℕ) (d : X) (r : Option ℕ) (lo : 1 ≤ n) (hi : n < length xs) where
  -- the place before the n-th
  one_on : n ≡ suc (n - 1)
  one_on = omega (arith, lo)

  -- the mark before the n-th
  here_x : f (get_or xs (n - 1) d) ≡ mark_at (map f xs) (n - 1)
  here_x = made_at f xs (n - 1) d (omega (arith, hi))

  -- the n-th mark
  here_y : f (get_or xs n d) ≡ mark_at (map f xs) (suc (n - 1))
  here_y = made_at f xs n d hi ∙ ap (mark_at (map f xs)) one_on

  -- a scan of marks takes one that repeats the one before it
  pub scan_takes : (k : ℕ) → Repeats (f (get_or xs (n - 1) d)) (f (get_or xs n d)) → k ≡ (f (get_or xs n d)).2
      → LeastRepeated (map f xs) n r → LeastRepeated (map f xs) (n + 1) (Some (lesser_of r k))
  scan_takes k rep e h =
      least_take (map f xs) (n - 1) n r k (omega (arith, lo))
      (subst (λ m. Repeats (mark_at (map f xs) (n - 1)) m) here_y (subst (λ m. Repeats m (f (get_or xs n d))) here_x rep))
      (e ∙ ap (λ (m : Mark). m.2) here_y) h

  -- a scan of marks passes one that repeats none
  pub scan_passes : (Repeats (f (get_or xs (n - 1) d)) (f (get_or xs n d)) → ⊥) → LeastRepeated (map f xs) n r
      → LeastRepeated (map f xs) (n + 1) r
  scan_passes not h =
      least_skip (map f xs) (n - 1) n r (omega (arith, lo))
      (λ rep. not (subst (λ m. Repeats m (f (get_or xs n d))) (sym here_x) (subst (λ m. Repeats (mark_at (map f xs) (n - 1)) m) (sym here_y) rep)))
      h
