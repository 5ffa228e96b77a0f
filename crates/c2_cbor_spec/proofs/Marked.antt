-- Marks that are sorted are those that are inserted one by one.
use Rattle.std.proofs.Common.{◌≡◌, ℕ, zero, suc, ◌+◌, ◌-◌, ◌*◌, ◌<◌, ◌≤◌, Bool, true, false, eqb, ltb, List, [], ◌∷◌}
use Rattle.std.proofs.Common.{length, get_or, drop, IsPermutation, IsSorted, is_lt, refl, sym, ap, subst, ◌∙◌}
use Rattle.std.proofs.Common.{◌⊎◌, inl, inr, ltb-true, ltb-false, eqb-true, eq-eqb, ne_eqb, arith}
use Rattle.std.specs.List.{AllByRecursion, IsDistinct}
use Rattle.std.specs.List.Sorted.{IsStrictlySortedBy}
use Rattle.std.specs.BTreeSet.{insert_key}
use Rattle.std.specs.Ordering.{nat_cmp, ordering_then, ordering_reverse, match_ordering, MatchOrdering}
use Rattle.std.specs.declared.cmp.Ordering.{Ordering}
use Rattle.std.specs.declared.cmp.Ordering.TheVariants.{Less, Equal, Greater}
use Rattle.std.specs.Cmp.{tied_itself, ranks, nat_cmp_is}
use Rattle.std.specs.Cmp.Lexicographic.{slice_cmp}
use Rattle.std.specs.FinMap.{nat_cmp-IsAntisymmetric, slice_cmp-IsAntisymmetric}
use Rattle.std.proofs.lemmas.Cmp.{nat_list_cmp_total}
use Rattle.std.proofs.lemmas.List.{get_or-drop, get_or_append_left, get_or-append-add, get_or_past}
use Rattle.std.proofs.lemmas.List.Elements.{recursion_from_All, All-from_recursion}
use Rattle.std.proofs.lemmas.List.Sorted.{All-permutation, IsPermutation-sym, IsPermutation-map}
use Rattle.std.proofs.lemmas.Map.Keys.{IsDistinct-IsPermutation, sorted_from_all_adjacent}
use Rattle.c2_cbor_spec.specs.Marks.{flat, StandIn, Bytes, AllBytes, AgreeBelow, SharesFront, front_of, front_after, Mark, mark_of, marks, numbered, mark_cmp, IsKeyOrder}
use Rattle.c2_cbor_spec.proofs.Marks.{Lent, lent_cmp}
use Rattle.c2_lemmas.proofs.Marks.{marks_total, sorted_map}

-- ---- the first bytes as a number

-- the first bytes as the digits of a number, zeros where there are fewer
abbrev digits : ℕ → List ℕ → ℕ
digits zero k = 0
digits (suc m) k = digits m k * 256 + get_or k m 0

-- the eight bytes are digits
front_digits : (k : List ℕ) → front_of k ≡ digits 8 k
front_digits k = omega arith

-- a lesser number has lesser digits before, or the same and a lesser one
digit_step : (x y p q : ℕ) → p < 256 → q < 256 → x * 256 + p < y * 256 + q → (x < y) ⊎ ((x ≡ y) × (p < q))
digit_step x y p q lp lq l = elim (ltb x y) as (λ b. ltb x y ≡ b → (x < y) ⊎ ((x ≡ y) × (p < q))) [
  | true ↦ λ e. inl (ltb-true x y e)
  | false ↦ λ e. let le : y ≤ x = ltb-false x y e in inr (omega (arith, le, lp, lq, l), omega (arith, le, lp, lq, l))
] refl

-- equal numbers have equal digits
same_digits : (m : ℕ) (a b : List ℕ) → Bytes a → Bytes b → digits m a ≡ digits m b → (i : ℕ) → i < m
    → get_or a i 0 ≡ get_or b i 0
same_digits zero a b p q e i l = let never : ⊥ = omega (arith, l) in absurd never
same_digits (suc m) a b p q e i l =
    let lp = p m in let lq = q m in
    let rest : digits m a ≡ digits m b = omega (arith, e, lp, lq) in
    let here : get_or a m 0 ≡ get_or b m 0 = omega (arith, e, lp, lq) in
    elim (ltb i m) as (λ t. ltb i m ≡ t → get_or a i 0 ≡ get_or b i 0) [
      | true ↦ λ h. same_digits m a b p q rest i (ltb-true i m h)
      | false ↦ λ h. let same : m ≡ i = omega (arith, l, ltb-false i m h) in subst (λ x. get_or a x 0 ≡ get_or b x 0) same here
    ] refl

-- the first place at which the digits of a lesser number differ
first_other : (m : ℕ) (a b : List ℕ) → Bytes a → Bytes b → digits m a < digits m b
    → (j : ℕ) × ((i : ℕ) → i < j → get_or a i 0 ≡ get_or b i 0) × (get_or a j 0 < get_or b j 0)
first_other zero a b p q l = let never : ⊥ = omega (arith, l) in absurd never
first_other (suc m) a b p q l = elim (digit_step (digits m a) (digits m b) (get_or a m 0) (get_or b m 0) (p m) (q m) l) [
  | inl h ↦ first_other m a b p q h
  | inr h ↦ (m, same_digits m a b p q h.0, h.1)
]

-- a key that differs there is less
other_less : (j : ℕ) (a b : List ℕ) → ((i : ℕ) → i < j → get_or a i 0 ≡ get_or b i 0) → get_or a j 0 < get_or b j 0
    → slice_cmp nat_cmp a b ≡ Less
other_less j [] [] h l = let never : ⊥ = omega (arith, l) in absurd never
other_less j [] (y ∷ b) h l = refl
other_less zero (x ∷ a) [] h l = let never : ⊥ = omega (arith, l) in absurd never
other_less (suc j) (x ∷ a) [] h l = let never : ⊥ = omega (arith, l) in absurd never
other_less zero (x ∷ a) (y ∷ b) h l = ap (λ o. ordering_then o (slice_cmp nat_cmp a b)) (sym (nat_cmp_is x y Less l))
other_less (suc j) (x ∷ a) (y ∷ b) h l =
    ap (λ o. ordering_then o (slice_cmp nat_cmp a b)) (sym (nat_cmp_is x y Equal (h 0 (omega arith))))
    ∙ other_less j a b (λ i lt. h (suc i) (omega (arith, lt))) l

-- bytes after others are bytes
bytes_after : (n : ℕ) (k : List ℕ) → Bytes k → Bytes (drop n k)
bytes_after n k b i = subst (λ x. x < 256) (sym (get_or-drop n k i 0)) (b (n + i))

-- where all before agree, the key whose number is smaller is smaller
front_less : (n : ℕ) (a b : List ℕ) → Bytes a → Bytes b → AgreeBelow n a b → front_after n a < front_after n b
    → slice_cmp nat_cmp a b ≡ Less
front_less n a b p q agree l =
    let d : digits 8 (drop n a) < digits 8 (drop n b) =
    omega (arith, l, front_digits (drop n a), front_digits (drop n b)) in
    let f = first_other 8 (drop n a) (drop n b) (bytes_after n a p) (bytes_after n b q) d in
    let before = λ (i : ℕ) (lt : i < n + f.0). elim (ltb i n) as (λ t. ltb i n ≡ t → get_or a i 0 ≡ get_or b i 0) [
      | true ↦ λ h. agree i (ltb-true i n h)
      | false ↦ λ h.
          let le : n ≤ i = ltb-false i n h in
          let e : n + (i - n) ≡ i = omega (arith, le) in
          ap (λ j. get_or a j 0) (sym e) ∙ sym (get_or-drop n a (i - n) 0) ∙ f.1 (i - n) (omega (arith, le, lt))
          ∙ get_or-drop n b (i - n) 0 ∙ ap (λ j. get_or b j 0) e
    ] refl in
    let less : get_or a (n + f.0) 0 < get_or b (n + f.0) 0 =
    omega (arith, f.2, get_or-drop n a f.0 0, get_or-drop n b f.0 0) in
    other_less (n + f.0) a b before less

-- a mark of a key that agrees with a
module _ (skip : ℕ) (a : List ℕ) where
  -- a mark of one of the first n keys, which agrees with a on the shared bytes
  pub record Fits (n : ℕ) (m : Mark) : Type 0 where
    pub front : m.0 ≡ front_after skip m.1
    pub bytes : Bytes m.1
    pub agree : AgreeBelow skip a m.1
    pub below : m.2 < n

  -- a mark of one of the first keys is one of more keys
  pub fits_more : (n k : ℕ) → n ≤ k → (m : Mark) → Fits n m → Fits k m
  fits_more n k le m f =
      record { front = f.front; bytes = f.bytes; agree = f.agree; below = omega (arith, f.below, le) }

-- an order says how numbers stand
ranked : (m n : ℕ) (o : Ordering) → nat_cmp m n ≡ o → MatchOrdering o (m < n) (m ≡ n) (n < m)
ranked m n o e = subst (λ r. MatchOrdering r (m < n) (m ≡ n) (n < m)) e (ranks m n)

-- the order of marks is that of keys and numbers
pub mark_order : (skip : ℕ) (a : List ℕ) (m n : ℕ) (x y : Mark) → Fits skip a m x → Fits skip a n y
    → mark_cmp x y ≡ ordering_then (slice_cmp nat_cmp x.1 y.1) (nat_cmp x.2 y.2)
mark_order skip a m n x y p q =
    let one : AgreeBelow skip x.1 y.1 = λ i lt. sym (p.agree i lt) ∙ q.agree i lt in
    let other : AgreeBelow skip y.1 x.1 = λ i lt. sym (one i lt) in
    let s = slice_cmp nat_cmp x.1 y.1 in
    elim (nat_cmp x.0 y.0) as (λ r. nat_cmp x.0 y.0 ≡ r → ordering_then (ordering_then r s) (nat_cmp x.2 y.2) ≡ ordering_then s (nat_cmp x.2 y.2)) [
      | Less ↦ λ e.
          let l : front_after skip x.1 < front_after skip y.1 =
          omega (arith, ranked x.0 y.0 Less e, p.front, q.front) in
          ap (λ r. ordering_then r (nat_cmp x.2 y.2)) (sym (front_less skip x.1 y.1 p.bytes q.bytes one l))
      | Equal ↦ λ e. refl
      | Greater ↦ λ e.
          let l : front_after skip y.1 < front_after skip x.1 =
          omega (arith, ranked x.0 y.0 Greater e, p.front, q.front) in
          let g : s ≡ Greater =
          nat_list_cmp_total.antisymm x.1 y.1
          ∙ ap ordering_reverse (front_less skip y.1 x.1 q.bytes p.bytes other l) in
          ap (λ r. ordering_then r (nat_cmp x.2 y.2)) (sym g)
    ] refl

-- ---- a mark is inserted

module _ (P : Mark → Type 0) where
  -- what holds of all and of one more
  pub all_insert : (ms : List Mark) (m : Mark) → P m → AllByRecursion P ms → AllByRecursion P (insert_key mark_cmp ms m)
  all_insert [] m p h = (p, tt)
  all_insert (x ∷ xs) m p h =
      elim (mark_cmp m x) as
      (λ o. AllByRecursion P (match_ordering o (m ∷ x ∷ xs) (x ∷ xs) (x ∷ insert_key mark_cmp xs m)))
      [ Less ↦ (p, h) | Equal ↦ h | Greater ↦ (h.0, all_insert xs m p h.1) ]

-- what follows of each
pub all_map : (P Q : Mark → Type 0) (ms : List Mark) → ((m : Mark) → P m → Q m) → AllByRecursion P ms
    → AllByRecursion Q ms
all_map P Q [] f h = tt
all_map P Q (m ∷ ms) f h = (f m h.0, all_map P Q ms f h.1)

-- each mark comes before the next
abbrev Strict : List Mark → Type 0
Strict = IsStrictlySortedBy mark_cmp

-- inserting keeps the strict order
strict_insert : (ms : List Mark) (m : Mark) → Strict ms → Strict (insert_key mark_cmp ms m)
unfolding IsStrictlySortedBy
strict_insert [] m h = (tt, tt)
strict_insert (x ∷ xs) m h = elim (mark_cmp m x) as (λ o. mark_cmp m x ≡ o → Strict (match_ordering o (m ∷ x ∷ xs) (x ∷ xs) (x ∷ insert_key mark_cmp xs m))) [
  | Less ↦ λ e. ((e, all_map (λ y. mark_cmp x y ≡ Less) (λ y. mark_cmp m y ≡ Less) xs (λ y l. marks_total.trans m x y e l) h.0), h)
  | Equal ↦ λ e. h
  | Greater ↦ λ e. (all_insert (λ y. mark_cmp x y ≡ Less) xs m (marks_total.antisymm x m ∙ ap ordering_reverse e) h.0, strict_insert xs m h.1)
] refl

-- ---- members

-- a mark is among these
abbrev In : Mark → List Mark → Type 0
In y [] = ⊥
In y (x ∷ xs) = (y ≡ x) ⊎ In y xs

-- a tie is a tie of all three
all_equal : (o p q : Ordering) → ordering_then (ordering_then o p) q ≡ Equal → (o ≡ Equal) × (p ≡ Equal) × (q ≡ Equal)
all_equal Less p q e = absurd cc
all_equal Greater p q e = absurd cc
all_equal Equal Less q e = absurd cc
all_equal Equal Greater q e = absurd cc
all_equal Equal Equal q e = (refl, refl, e)

-- tied marks are the same
same_mark : (x y : Mark) → mark_cmp x y ≡ Equal → x ≡ y
same_mark x y e =
    let all = all_equal (nat_cmp x.0 y.0) (slice_cmp nat_cmp x.1 y.1) (nat_cmp x.2 y.2) e in
    let e0 : x.0 ≡ y.0 = nat_cmp-IsAntisymmetric x.0 y.0 all.0 in
    let e1 : x.1 ≡ y.1 = slice_cmp-IsAntisymmetric nat_cmp-IsAntisymmetric x.1 y.1 all.1 in
    let e2 : x.2 ≡ y.2 = nat_cmp-IsAntisymmetric x.2 y.2 all.2 in
    ap (λ a. (a, x.1, x.2)) e0 ∙ ap (λ a. (y.0, a, x.2)) e1 ∙ ap (λ a. (y.0, y.1, a)) e2

-- the new one is in
in_new : (ms : List Mark) (m : Mark) → In m (insert_key mark_cmp ms m)
in_new [] m = inl refl
in_new (x ∷ xs) m = elim (mark_cmp m x) as (λ o. mark_cmp m x ≡ o → In m (match_ordering o (m ∷ x ∷ xs) (x ∷ xs) (x ∷ insert_key mark_cmp xs m))) [
  | Less ↦ λ e. inl refl
  | Equal ↦ λ e. inl (same_mark m x e)
  | Greater ↦ λ e. inr (in_new xs m)
] refl

-- the others stay in
in_old : (ms : List Mark) (m y : Mark) → In y ms → In y (insert_key mark_cmp ms m)
in_old [] m y h = absurd h
in_old (x ∷ xs) m y h = elim (mark_cmp m x) as (λ o. In y (match_ordering o (m ∷ x ∷ xs) (x ∷ xs) (x ∷ insert_key mark_cmp xs m))) [
  | Less ↦ inr h
  | Equal ↦ h
  | Greater ↦ elim h [ inl e ↦ inl e | inr k ↦ inr (in_old xs m y k) ]
]

-- nothing else comes in
in_from : (ms : List Mark) (m y : Mark) → In y (insert_key mark_cmp ms m) → (y ≡ m) ⊎ In y ms
in_from [] m y h = h
in_from (x ∷ xs) m y h = elim (mark_cmp m x) as (λ o. In y (match_ordering o (m ∷ x ∷ xs) (x ∷ xs) (x ∷ insert_key mark_cmp xs m)) → (y ≡ m) ⊎ In y (x ∷ xs)) [
  | Less ↦ λ h. h
  | Equal ↦ λ h. inr h
  | Greater ↦ λ h. elim h [ inl e ↦ inr (inl e) | inr k ↦ elim (in_from xs m y k) [ inl e ↦ inl e | inr i ↦ inr (inr i) ] ]
] h

-- all of some marks inserted into others
abbrev pub inserted : List Mark → List Mark → List Mark
inserted ms [] = ms
inserted ms (n ∷ ns) = inserted (insert_key mark_cmp ms n) ns

-- inserting all keeps the strict order
strict_inserted : (ms ns : List Mark) → Strict ms → Strict (inserted ms ns)
strict_inserted ms [] h = h
strict_inserted ms (n ∷ ns) h = strict_inserted (insert_key mark_cmp ms n) ns (strict_insert ms n h)

-- all are in
inserted_has : (ms ns : List Mark) (y : Mark) → In y ms ⊎ In y ns → In y (inserted ms ns)
inserted_has ms [] y (inl h) = h
inserted_has ms [] y (inr h) = absurd h
inserted_has ms (n ∷ ns) y (inl h) = inserted_has (insert_key mark_cmp ms n) ns y (inl (in_old ms n y h))
inserted_has ms (n ∷ ns) y (inr (inl e)) =
    inserted_has (insert_key mark_cmp ms n) ns y
    (inl (subst (λ z. In z (insert_key mark_cmp ms n)) (sym e) (in_new ms n)))
inserted_has ms (n ∷ ns) y (inr (inr h)) = inserted_has (insert_key mark_cmp ms n) ns y (inr h)

-- nothing else is in
has_inserted : (ms ns : List Mark) (y : Mark) → In y (inserted ms ns) → In y ms ⊎ In y ns
has_inserted ms [] y h = inl h
has_inserted ms (n ∷ ns) y h = elim (has_inserted (insert_key mark_cmp ms n) ns y h) [
  | inl k ↦ elim (in_from ms n y k) [ inl e ↦ inr (inl e) | inr i ↦ inl i ]
  | inr k ↦ inr (inr k)
]

-- what holds of all holds of a member
in_all : (P : Mark → Type 0) (ms : List Mark) (y : Mark) → AllByRecursion P ms → In y ms → P y
in_all P [] y h i = absurd i
in_all P (x ∷ xs) y h (inl e) = subst P (sym e) h.0
in_all P (x ∷ xs) y h (inr i) = in_all P xs y h.1 i

-- none is less than one that is less
not_both : (x y : Mark) → mark_cmp x y ≡ Less → mark_cmp y x ≡ Less → ⊥
not_both x y e f = let clash : Less ≡ Greater = sym e ∙ marks_total.antisymm x y ∙ ap ordering_reverse f in cc

-- none is less than itself
not_itself : (x y : Mark) → y ≡ x → mark_cmp x y ≡ Less → ⊥
not_itself x y e l = let clash : Less ≡ Equal = sym l ∙ ap (mark_cmp x) e ∙ tied_itself marks_total x in cc

-- two lists in strict order with the same members
unique : (xs ys : List Mark) → Strict xs → Strict ys → ((m : Mark) → In m xs → In m ys)
    → ((m : Mark) → In m ys → In m xs) → xs ≡ ys
unfolding IsStrictlySortedBy
unique [] [] p q f g = refl
unique [] (y ∷ ys) p q f g = absurd (g y (inl refl))
unique (x ∷ xs) [] p q f g = absurd (f x (inl refl))
unique (x ∷ xs) (y ∷ ys) p q f g =
    let same : x ≡ y = elim (f x (inl refl)) [
      | inl e ↦ e
      | inr h ↦ elim (g y (inl refl)) [ inl e ↦ sym e | inr k ↦ absurd (not_both x y (in_all (λ z. mark_cmp x z ≡ Less) xs y p.0 k) (in_all (λ z. mark_cmp y z ≡ Less) ys x q.0 h)) ]
    ] in
    let there =
    λ (m : Mark) (h : In m xs). elim (f m (inr h)) as (λ _. In m ys) [ inl e ↦ absurd (not_itself x m (e ∙ sym same) (in_all (λ z. mark_cmp x z ≡ Less) xs m p.0 h)) | inr k ↦ k ] in
    let back =
    λ (m : Mark) (h : In m ys). elim (g m (inr h)) as (λ _. In m xs) [ inl e ↦ absurd (not_itself y m (e ∙ same) (in_all (λ z. mark_cmp y z ≡ Less) ys m q.0 h)) | inr k ↦ k ] in
    ap (λ z. z ∷ xs) same ∙ ap (λ zs. y ∷ zs) (unique xs ys p.1 q.1 there back)

-- ---- what was sorted is in strict order

-- two marks have the same number
abbrev one_number : Mark → Mark → Bool
one_number x y = eqb x.2 y.2

-- a lesser number is none of these
numbers_above : (skip i : ℕ) (m : Mark) (ks : List (List ℕ)) → m.2 < i
    → AllByRecursion (λ y. one_number m y ≡ false) (numbered skip i ks)
numbers_above skip i m [] l = tt
numbers_above skip i m (k ∷ ks) l =
    (ne_eqb m.2 i (λ e. omega (arith, e, l)), numbers_above skip (suc i) m ks (omega (arith, l)))

-- no two keys have one number
numbers_differ : (skip i : ℕ) (ks : List (List ℕ)) → IsDistinct one_number (numbered skip i ks)
unfolding IsDistinct
numbers_differ skip i [] = tt
numbers_differ skip i (k ∷ ks) =
    (numbers_above skip (suc i) (front_after skip k, k, i) ks (omega arith), numbers_differ skip (suc i) ks)

-- equality of numbers is symmetric
eqb_flips : (m n : ℕ) → eqb m n ≡ eqb n m
eqb_flips m n = elim (eqb m n) as (λ b. eqb m n ≡ b → b ≡ eqb n m) [
  | true ↦ λ e. sym (ap (λ x. eqb x m) (sym (eqb-true m n e)) ∙ ap (eqb m) (eqb-true m n e) ∙ e)
  | false ↦ λ e. elim (eqb n m) as (λ b. eqb n m ≡ b → false ≡ b) [ true ↦ λ f. sym e ∙ ap (eqb m) (eqb-true n m f) ∙ ap (λ x. eqb x m) (sym (eqb-true n m f)) ∙ f | false ↦ λ f. refl ] refl
] refl

-- neighbours have two numbers
distinct_at : (ms : List Mark) (k : ℕ) (d : Mark) → IsDistinct one_number ms → k + 1 < length ms
    → one_number (get_or ms k d) (get_or ms (k + 1) d) ≡ false
unfolding IsDistinct
distinct_at [] k d h l = let never : ⊥ = omega (arith, l) in absurd never
distinct_at (x ∷ []) k d h l = let never : ⊥ = omega (arith, l) in absurd never
distinct_at (x ∷ y ∷ ys) zero d h l = let e : 0 + 1 ≡ suc zero = omega arith in subst (λ n. one_number x (get_or (x ∷ y ∷ ys) n d) ≡ false) (sym e) h.0.0
distinct_at (x ∷ y ∷ ys) (suc k) d h l = let e : suc k + 1 ≡ suc (k + 1) = omega arith in subst (λ n. one_number (get_or (y ∷ ys) k d) (get_or (x ∷ y ∷ ys) n d) ≡ false) (sym e) (distinct_at (y ∷ ys) k d h.1 (omega (arith, l)))

-- equal numbers are found equal
eq_true : (m n : ℕ) → m ≡ n → eqb m n ≡ true
eq_true m n e = eq-eqb m n e

-- no marks are in strict order
strict_nil : Strict []
unfolding IsStrictlySortedBy
strict_nil = tt

-- a neighbour that isn't less and has another number is greater
rises : (x y : Mark) → is_lt (mark_cmp y x) ≡ false → one_number x y ≡ false → mark_cmp x y ≡ Less
rises x y e f = elim (mark_cmp y x) as (λ o. mark_cmp y x ≡ o → is_lt o ≡ false → mark_cmp x y ≡ Less) [
  | Less ↦ λ h t. absurd cc
  | Equal ↦ λ h t. let same : y.2 ≡ x.2 = ap (λ m. m.2) (same_mark y x h) in let clash : true ≡ false = sym (eq_true x.2 y.2 (sym same)) ∙ f in absurd cc
  | Greater ↦ λ h t. marks_total.antisymm x y ∙ ap ordering_reverse h
] refl e

module _ (skip : ℕ) (ks : List (List ℕ)) (ms : List Mark) (moved : IsPermutation (numbered skip 0 ks) ms) (up : IsSorted mark_cmp ms) where
  -- sorted marks are in strict order
  strict_sorted : Strict ms
  strict_sorted =
      let d =
      IsDistinct-IsPermutation one_number (λ x y. eqb_flips x.2 y.2) (numbered skip 0 ks) ms moved
      (numbers_differ skip 0 ks) in
      sorted_from_all_adjacent marks_total ms (0, [], 0)
      (λ k l. rises (get_or ms k (0, [], 0)) (get_or ms (k + 1) (0, [], 0)) (up k (0, [], 0) (omega arith) l) (distinct_at ms k (0, [], 0) d l))

  -- members are in
  all_in : (xs ys : List Mark) → ((y : Mark) → In y xs → In y ys) → AllByRecursion (λ y. In y ys) xs
  all_in [] ys f = tt
  all_in (x ∷ xs) ys f = (f x (inl refl), all_in xs ys (λ y h. f y (inr h)))

  -- a permutation has no other members
  moves : (xs ys : List Mark) → IsPermutation xs ys → (y : Mark) → In y ys → In y xs
  moves xs ys p y =
      in_all (λ y. In y xs) ys y
      (recursion_from_All (λ y. In y xs) ys (All-permutation (λ y. In y xs) xs ys p (All-from_recursion (λ y. In y xs) xs (all_in xs xs (λ y h. h)))))

  -- sorted marks are those inserted one by one
  pub sorted_is : ms ≡ inserted [] (numbered skip 0 ks)
  sorted_is = unique ms (inserted [] (numbered skip 0 ks)) strict_sorted (strict_inserted [] (numbered skip 0 ks) (strict_nil))
      (λ m h. inserted_has [] (numbered skip 0 ks) m (inr (moves (numbered skip 0 ks) ms moved m h)))
      (λ m h. elim (has_inserted [] (numbered skip 0 ks) m h) as (λ _. In m ms) [ inl k ↦ absurd k | inr k ↦ moves ms (numbered skip 0 ks) (IsPermutation-sym (numbered skip 0 ks) ms moved) m k ])

-- ---- what the code does

-- bytes of all are bytes of each
all_bytes : (ks : List (List ℕ)) → Bytes (flat ks) → AllBytes ks
all_bytes [] h = tt
all_bytes (k ∷ ks) h = (
  λ i. elim (ltb i (length k)) as (λ b. ltb i (length k) ≡ b → get_or k i 0 < 256) [
    | true ↦ λ t. subst (λ x. x < 256) (get_or_append_left k (flat ks) 0 i (ltb-true i (length k) t)) (h i)
    | false ↦ λ t. omega (arith, get_or_past k i 0 (ltb-false i (length k) t))
  ] refl,
  all_bytes ks (λ i. subst (λ x. x < 256) (get_or-append-add k (flat ks) i 0) (h (length k + i))),
)

-- what was cut and sorted is in order
pub in_key_order : (skip : ℕ) (ks : List (List ℕ)) (bytes lens : List ℕ) (keys sorted : List Lent)
    → StandIn ks bytes lens → Bytes bytes → SharesFront skip ks → marks keys ≡ numbered skip 0 ks
    → IsPermutation keys sorted → IsSorted lent_cmp sorted → IsKeyOrder ks (marks sorted)
in_key_order skip ks bytes lens keys sorted stand b shared h moved up =
    record {
      skip = skip;
      shared = shared;
      bytes = all_bytes ks (subst Bytes stand.flat b);
      moved = subst (λ ms. IsPermutation ms (marks sorted)) h (IsPermutation-map mark_of keys sorted moved);
      up = sorted_map mark_cmp mark_of sorted up;
    }
