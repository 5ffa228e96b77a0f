-- The first key that equals one before it, key by key.
use Rattle.std.proofs.Common.{◌≡◌, ℕ, zero, suc, ◌+◌, ◌<◌, ◌≤◌, Bool, true, false, cond, List, [], ◌∷◌, ◌++◌, length, get_or, Some, None, refl, sym, ap, subst, ◌∙◌, ◌⊎◌, inl, inr, arith}
use Rattle.std.specs.Option.{option_or}
use Rattle.std.proofs.lemmas.Option.{same_Some}
use Rattle.std.proofs.lemmas.List.{map_push, length-map}
use Rattle.std.proofs.lemmas.Cmp.{nat_list_cmp_total}
use Rattle.std.specs.BTreeMap.{is_at}
use Rattle.std.specs.Ordering.{nat_cmp, match_ordering, ordering_reverse, is_gt}
use Rattle.std.specs.declared.cmp.Ordering.{Ordering}
use Rattle.std.specs.declared.cmp.Ordering.TheVariants.{Less, Equal, Greater}
use Rattle.std.specs.Cmp.Lexicographic.{slice_cmp}
use Rattle.c2_spec.specs.Cbor.View.{view}
use Rattle.c2_spec.specs.Cbor.Deterministic.{preferred}
use Rattle.c2_spec.specs.declared.cbor.Cbor.{Cbor}
use Rattle.c2_cbor_spec.specs.Reading.{is_known, with_key}
use Rattle.c2_cbor_spec.specs.Tracking.{spelled, known_after, first_known, keys_of, first_equal, NoneAbove}
use Rattle.c2_cbor_spec.proofs.Keys.{same_at, known_new, known_stays, known_with}
use Rattle.c2_lemmas.proofs.Bools.{or_cases, or_neither}

-- the order of keys by their bytes
abbrev cmp : List ℕ → List ℕ → Ordering
cmp = slice_cmp nat_cmp

-- the other way round of greater
turned : (o p : Ordering) → o ≡ Greater → p ≡ ordering_reverse o → p ≡ Less
turned o p e f = f ∙ ap ordering_reverse e

-- the other way round of less
turned_back : (o p : Ordering) → o ≡ Less → p ≡ ordering_reverse o → p ≡ Greater
turned_back o p e f = f ∙ ap ordering_reverse e

-- greater than a greater one
greater_trans : (x y z : List ℕ) → cmp x y ≡ Greater → cmp y z ≡ Greater → cmp x z ≡ Greater
greater_trans x y z p q =
    let zy : cmp z y ≡ Less = turned (cmp y z) (cmp z y) q (nat_list_cmp_total.antisymm z y) in
    let yx : cmp y x ≡ Less = turned (cmp x y) (cmp y x) p (nat_list_cmp_total.antisymm y x) in
    turned_back (cmp z x) (cmp x z) (nat_list_cmp_total.trans z y x zy yx) (nat_list_cmp_total.antisymm x z)

-- nothing is its own reverse and greater
own_turn : (o : Ordering) → o ≡ ordering_reverse o → o ≡ Greater → ⊥
own_turn o e g = let turned : ordering_reverse o ≡ Less = ap ordering_reverse g in let same : Greater ≡ Less = sym g ∙ e ∙ turned in cc

-- no key is above itself
not_above_itself : (k : List ℕ) → cmp k k ≡ Greater → ⊥
not_above_itself k g = own_turn (cmp k k) (nat_list_cmp_total.antisymm k k) g

-- none is above a greater last key
raise : (k last : List ℕ) (ks : List (List ℕ)) → cmp k last ≡ Greater → NoneAbove last ks → NoneAbove k ks
raise k last [] g h = tt
raise k last (x ∷ xs) g h = (λ above. h.0 (greater_trans x k last above g), raise k last xs g h.1)

-- what holds of each choice
at_places : (P : List (List ℕ) → Type 0) (o : Ordering) (a b c : List (List ℕ)) → P a → P b → P c
    → P (match_ordering o a b c)
at_places P Less a b c p q r = p
at_places P Equal a b c p q r = q
at_places P Greater a b c p q r = r

-- one more that isn't above
none_insert : (m : List ℕ) (ks : List (List ℕ)) (k : List ℕ) → NoneAbove m ks → (cmp k m ≡ Greater → ⊥)
    → NoneAbove m (with_key ks k)
none_insert m [] k h ne = (ne, tt)
none_insert m (x ∷ xs) k h ne =
    at_places (NoneAbove m) (cmp k x) (k ∷ x ∷ xs) (x ∷ xs) (x ∷ with_key xs k) (ne, h) h
    (h.0, none_insert m xs k h.1 ne)

-- a greater key is the last of all
still_rises : (k last : List ℕ) (ks : List (List ℕ)) → cmp k last ≡ Greater → NoneAbove last ks
    → NoneAbove k (with_key ks k)
still_rises k last ks g h = none_insert k ks k (raise k last ks g h) (not_above_itself k)

-- a greater key is another
not_at : (k x last : List ℕ) → cmp k last ≡ Greater → (cmp x last ≡ Greater → ⊥) → is_at (cmp k) x ≡ false
not_at k x last g ne =
    elim (is_at (cmp k) x) as (λ b. is_at (cmp k) x ≡ b → b ≡ false)
    [ true ↦ λ e. absurd (ne (ap (λ y. cmp y last) (sym (same_at k x e)) ∙ g)) | false ↦ λ e. refl ] refl

-- a greater key is new
above_new : (k last : List ℕ) (ks : List (List ℕ)) → cmp k last ≡ Greater → NoneAbove last ks → is_known k ks ≡ false
above_new k last [] g h = refl
above_new k last (x ∷ xs) g h = or_neither _ _ (not_at k x last g h.0) (above_new k last xs g h.1)

-- a test of greater
is_greater : (o : Ordering) → is_gt o ≡ true → o ≡ Greater
is_greater Less e = absurd cc
is_greater Equal e = absurd cc
is_greater Greater e = refl

-- the same of what the code compares
pub above_is : (r : Bool) (a b k l : List ℕ) → r ≡ is_gt (cmp a b) → r ≡ true → a ≡ k → b ≡ l → is_gt (cmp k l) ≡ true
above_is r a b k l e f p q = ap (λ x. is_gt (cmp k x)) (sym q) ∙ ap (λ x. is_gt (cmp x b)) (sym p) ∙ sym e ∙ f

-- ---- one more key

-- one more known key
pub known_after_append : (seen ks : List (List ℕ)) (k : List ℕ)
    → known_after seen (ks ++ k ∷ []) ≡ with_key (known_after seen ks) k
known_after_append seen [] k = refl
known_after_append seen (x ∷ xs) k = known_after_append (with_key seen x) xs k

-- the first known key of two lists
first_append : (seen : List (List ℕ)) (i n : ℕ) (ks ys : List (List ℕ)) → n ≡ i + length ks
    → first_known seen i (ks ++ ys) ≡ option_or (first_known seen i ks) (first_known (known_after seen ks) n ys)
first_append seen i n [] ys e = let same : i ≡ n = omega (arith, e) in ap (λ m. first_known seen m ys) same
first_append seen i n (x ∷ ks) ys e =
    elim (is_known x seen) as (λ b. cond b (Some i) (first_known (with_key seen x) (suc i) (ks ++ ys)) ≡ option_or (cond b (Some i) (first_known (with_key seen x) (suc i) ks)) (first_known (known_after (with_key seen x) ks) n ys)) [
      | true ↦ refl
      | false ↦ first_append (with_key seen x) (suc i) n ks ys (omega (arith, e))
    ]

-- it is one of them
pub first_within : (seen : List (List ℕ)) (i j : ℕ) (ks : List (List ℕ)) → first_known seen i ks ≡ Some j
    → j < i + length ks
first_within seen i j [] e = absurd cc
first_within seen i j (x ∷ ks) e =
    elim (is_known x seen) as (λ b. cond b (Some i) (first_known (with_key seen x) (suc i) ks) ≡ Some j → j < i + suc (length ks)) [
      | true ↦ λ h. let same : i ≡ j = same_Some i j h in omega arith
      | false ↦ λ h. omega (arith, first_within (with_key seen x) (suc i) j ks h)
    ] e

-- so it has a place
pub place_within : (ps : List (Cbor × Cbor)) (j n : ℕ) → first_equal ps ≡ Some j → length ps ≤ n → j < n
place_within ps j n e le =
    omega (arith, first_within [] 0 j (spelled ps) e, length-map ps (λ q. preferred (view q.0)), le)

module _ (ps qs : List (Cbor × Cbor)) (p : Cbor × Cbor) (same : qs ≡ ps ++ p ∷ []) where
  -- one more spelling
  pub spelled_push : spelled qs ≡ spelled ps ++ preferred (view p.0) ∷ []
  spelled_push = ap spelled same ∙ map_push (λ q. preferred (view q.0)) ps p

  -- one more key of pairs
  pub keys_push : keys_of qs ≡ with_key (keys_of ps) (preferred (view p.0))
  keys_push = ap (known_after []) spelled_push ∙ known_after_append [] (spelled ps) (preferred (view p.0))

  -- the first equal key with one more pair
  split : first_equal qs ≡ option_or (first_equal ps)
      (cond (is_known (preferred (view p.0)) (keys_of ps)) (Some (length (spelled ps))) None)
  split =
      ap (first_known [] 0) spelled_push
      ∙ first_append [] 0 (length (spelled ps)) (spelled ps) (preferred (view p.0) ∷ []) (omega arith)

  -- it stays
  pub first_stays : (j : ℕ) → first_equal ps ≡ Some j → first_equal qs ≡ Some j
  first_stays j e =
      split
      ∙ ap (λ o. option_or o (cond (is_known (preferred (view p.0)) (keys_of ps)) (Some (length (spelled ps))) None)) e

  -- it is the new one
  pub first_here : first_equal ps ≡ None → is_known (preferred (view p.0)) (keys_of ps) ≡ true
      → first_equal qs ≡ Some (length (spelled ps))
  first_here e h =
      split
      ∙ ap (λ o. option_or o (cond (is_known (preferred (view p.0)) (keys_of ps)) (Some (length (spelled ps))) None)) e
      ∙ ap (λ b. cond b (Some (length (spelled ps))) None) h

  -- there is none still
  pub first_none : first_equal ps ≡ None → is_known (preferred (view p.0)) (keys_of ps) ≡ false → first_equal qs ≡ None
  first_none e h =
      split
      ∙ ap (λ o. option_or o (cond (is_known (preferred (view p.0)) (keys_of ps)) (Some (length (spelled ps))) None)) e
      ∙ ap (λ b. cond b (Some (length (spelled ps))) None) h

  -- a key k above the last
  pub rises_on : (k last : List ℕ) → k ≡ preferred (view p.0) → is_gt (cmp k last) ≡ true
      → (first_equal ps ≡ None) × NoneAbove last (keys_of ps) → (first_equal qs ≡ None) × NoneAbove k (keys_of qs)
  rises_on k last e g h =
      let above : cmp (preferred (view p.0)) last ≡ Greater = ap (λ x. cmp x last) (sym e) ∙ is_greater _ g in (
        first_none h.0 (above_new _ last (keys_of ps) above h.1),
        subst (λ x. NoneAbove x (keys_of qs)) (sym e) (subst (NoneAbove (preferred (view p.0))) (sym keys_push) (still_rises _ last (keys_of ps) above h.1)),
      )

-- ---- two equal keys

-- the key at q equals an earlier one, or was known
abbrev pub Repeated : List (List ℕ) → List (List ℕ) → ℕ → Type 0
Repeated seen ks q = (is_known (get_or ks q []) seen ≡ true) ⊎ ((p : ℕ) × (p < q) × (get_or ks p [] ≡ get_or ks q []))

-- what is known once k is
later_repeated : (seen : List (List ℕ)) (k : List ℕ) (ks : List (List ℕ)) (q : ℕ) → Repeated (with_key seen k) ks q
    → Repeated seen (k ∷ ks) (suc q)
later_repeated seen k ks q (inl e) =
    elim (or_cases (is_at (cmp (get_or ks q [])) k) (is_known (get_or ks q []) seen) (sym (known_with (get_or ks q []) k seen) ∙ e)) [
      | inl h ↦ inr (0, omega arith, sym (same_at (get_or ks q []) k h))
      | inr h ↦ inl h
    ]
later_repeated seen k ks q (inr h) = inr (suc h.0, omega (arith, h.1), h.2)

-- the first known key repeats one
pub first_repeats : (seen : List (List ℕ)) (i j : ℕ) (ks : List (List ℕ)) → first_known seen i ks ≡ Some j
    → (q : ℕ) × (q < length ks) × (j ≡ i + q) × Repeated seen ks q
first_repeats seen i j [] e = absurd cc
first_repeats seen i j (x ∷ ks) e =
    elim (is_known x seen) as (λ b. is_known x seen ≡ b → cond b (Some i) (first_known (with_key seen x) (suc i) ks) ≡ Some j → (q : ℕ) × (q < suc (length ks)) × (j ≡ i + q) × Repeated seen (x ∷ ks) q) [
      | true ↦ λ k h. let same : i ≡ j = same_Some i j h in (0, omega arith, omega arith, inl k)
      | false ↦ λ k h. let r = first_repeats (with_key seen x) (suc i) j ks h in (suc r.0, omega (arith, r.1), omega (arith, r.2), later_repeated seen x ks r.0 r.3)
    ] refl e

-- a repeated key, without the first
earlier_repeated : (seen : List (List ℕ)) (k : List ℕ) (ks : List (List ℕ)) (q : ℕ) → Repeated seen (k ∷ ks) (suc q)
    → Repeated (with_key seen k) ks q
earlier_repeated seen k ks q (inl e) = inl (known_stays (get_or ks q []) k seen e)
earlier_repeated seen k ks q (inr (zero, lt, e)) =
    inl (subst (λ x. is_known x (with_key seen k) ≡ true) e (known_new k seen))
earlier_repeated seen k ks q (inr (suc p, lt, e)) = inr (p, omega (arith, lt), e)

-- where a key repeats one, there is a first
pub repeats_first : (seen : List (List ℕ)) (i : ℕ) (ks : List (List ℕ)) (q : ℕ) → q < length ks → Repeated seen ks q
    → (j : ℕ) × (first_known seen i ks ≡ Some j) × (j ≤ i + q)
repeats_first seen i [] q lt h = let never : ⊥ = omega (arith, lt) in absurd never
repeats_first seen i (x ∷ ks) zero lt (inl e) =
    (i, ap (λ b. cond b (Some i) (first_known (with_key seen x) (suc i) ks)) e, omega arith)
repeats_first seen i (x ∷ ks) zero lt (inr h) = let never : ⊥ = omega (arith, h.1) in absurd never
repeats_first seen i (x ∷ ks) (suc q) lt h =
    elim (is_known x seen) as (λ b. (j : ℕ) × (cond b (Some i) (first_known (with_key seen x) (suc i) ks) ≡ Some j) × (j ≤ i + suc q)) [
      | true ↦ (i, refl, omega arith)
      | false ↦ let r = repeats_first (with_key seen x) (suc i) ks q (omega (arith, lt)) (earlier_repeated seen x ks q h) in (r.0, r.1, omega (arith, r.2))
    ]

-- one key equals none
pub few_distinct : (ps : List (Cbor × Cbor)) → length ps < 2 → first_equal ps ≡ None
few_distinct [] l = refl
few_distinct (p ∷ []) l = refl
few_distinct (p ∷ q ∷ ps) l = let never : ⊥ = omega (arith, l) in absurd never
