-- The place of the manifest with a label among those that aren't active.
use Rattle.std.proofs.Common.{◌≡◌, ◌⊎◌, inl, inr, ℕ, zero, suc, ◌+◌, ◌-◌, ◌<◌, ◌≤◌, Bool, true, false, not, cond, ltb, min, List, [], ◌∷◌, Option, Some, None, length, get_or, slice_get, take, bytes_eq, refl, sym, ap, ◌∙◌, arith}
use Rattle.std.specs.List.{find, position, position_or_len}
use Rattle.std.specs.Option.{option_map, option_and_then}
use Rattle.std.proofs.lemmas.Bool.{cases_lt}
use Rattle.std.proofs.lemmas.List.Folds.{find_at}
use Rattle.std.proofs.lemmas.List.{length-map}
use Rattle.std.proofs.lemmas.Option.{slice_get_past, slice_get-get_or, slice_get-map}
use Rattle.std.proofs.lemmas.Slice.Eq.{bytes_eq-Decides}
use Rattle.c2_rules.specs.Chains.{label_in, place_of}
use Rattle.c2_rules.specs.Readings.{Reading}
use Rattle.c2_compare_spec.specs.Differences.{other_named}
use Rattle.c2_compare_content.specs.Targets.{before, other_place, equality_of, equalities}
use Rattle.c2_compare_content.specs.declared.targets.Equality.{Equality}
use Rattle.c2_lemmas.proofs.Lists.{get_in_front}
use Rattle.c2_lemmas.proofs.Numbers.{ltb_less, ltb_not_less}

-- the length of the front of a list
front_len : {X : Type 0} (xs : List X) (n : ℕ) → (length (take n xs) ≤ n) × (length (take n xs) ≤ length xs)
front_len [] zero = (omega arith, omega arith)
front_len [] (suc n) = (omega arith, omega arith)
front_len (x ∷ xs) zero = (omega arith, omega arith)
front_len (x ∷ xs) (suc n) = let h = front_len xs n in (omega (arith, h), omega (arith, h))

module _ {X : Type 0} (d : X → Bool) where
  -- the first place of the front of a list at which a test passes
  front_place : (xs : List X) (n : ℕ) → position_or_len d (take n xs) ≡ min n (position_or_len d xs)
  front_place [] zero = refl
  front_place [] (suc n) = omega arith
  front_place (x ∷ xs) zero = omega arith
  front_place (x ∷ xs) (suc n) = by (d x) (front_place xs n)
    where
      by : (b : Bool) → position_or_len d (take n xs) ≡ min n (position_or_len d xs)
          → cond (not b) (1 + position_or_len d (take n xs)) 0
          ≡ min (suc n) (cond (not b) (1 + position_or_len d xs) 0)
      by true e = omega arith
      by false e = ap (λ k. 1 + k) e ∙ omega arith

  -- the first that passes in the front of a list is at the first place of all, where that is in the front
  found_front : (xs : List X) (n : ℕ)
      → option_and_then (slice_get xs) (before (n + 1) (position d xs)) ≡ find d (take n xs)
  found_front xs n =
      by (cases_lt (position_or_len d xs) (length xs)) (cases_lt (position_or_len d xs) n)
      ∙ sym (find_at d (take n xs) ∙ ap (slice_get (take n xs)) (front_place xs n))
    where
      q : ℕ
      q = position_or_len d xs

      lens : (length (take n xs) ≤ n) × (length (take n xs) ≤ length xs)
      lens = front_len xs n

      by : (q < length xs) ⊎ (length xs ≤ q) → (q < n) ⊎ (n ≤ q)
          → option_and_then (slice_get xs) (before (n + 1) (cond (ltb q (length xs)) (Some q) None)) ≡ slice_get (take n xs) (min n q)
      by (inl lt) (inl small) =
          let m : min n q ≡ q = omega (arith, small) in
          ap (λ b. option_and_then (slice_get xs) (before (n + 1) (cond b (Some q) None))) (ltb_less q (length xs) lt)
          ∙ ap (λ b. option_and_then (slice_get xs) (cond b (Some q) None))
          (ltb_less (q + 1) (n + 1) (omega (arith, small)))
          ∙ sym (get_in_front xs n q small) ∙ ap (slice_get (take n xs)) (sym m)
      by (inl lt) (inr large) =
          let past : length (take n xs) ≤ min n q = omega (arith, large, lens) in
          ap (λ b. option_and_then (slice_get xs) (before (n + 1) (cond b (Some q) None))) (ltb_less q (length xs) lt)
          ∙ ap (λ b. option_and_then (slice_get xs) (cond b (Some q) None))
          (ltb_not_less (q + 1) (n + 1) (omega (arith, large)))
          ∙ sym (slice_get_past (take n xs) (min n q) past)
      by (inr le) other =
          let past : length (take n xs) ≤ min n q = omega (arith, le, lens) in
          ap (λ b. option_and_then (slice_get xs) (before (n + 1) (cond b (Some q) None)))
          (ltb_not_less q (length xs) le)
          ∙ sym (slice_get_past (take n xs) (min n q) past)

  -- what is found passes
  find_passes : (xs : List X) (x : X) → find d xs ≡ Some x → d x ≡ true
  find_passes [] x e = absurd (cc (e))
  find_passes (y ∷ ys) x e = by (d y) refl e (find_passes ys x)
    where
      by : (b : Bool) → d y ≡ b → cond b (Some y) (find d ys) ≡ Some x → (find d ys ≡ Some x → d x ≡ true) → d x ≡ true
      by true t f more = let same : y ≡ x = cc (f) in ap d (sym same) ∙ t
      by false t f more = more f

-- the manifest at that place is the one with the label
pub other_is : (rs : List Reading) (label : List ℕ)
    → option_and_then (slice_get rs) (other_place rs label) ≡ other_named rs label
other_is rs label = by rs
  where
    same : List Reading → Reading → Bool
    same xs r = bytes_eq (label_in r) label

    by : (xs : List Reading) → option_and_then (slice_get xs) (other_place xs label) ≡ other_named xs label
    by [] = refl
    by (x ∷ xs) =
        let one : length (x ∷ xs) ≡ length (x ∷ xs) - 1 + 1 = omega arith in
        ap (λ n. option_and_then (slice_get (x ∷ xs)) (before n (place_of (x ∷ xs) label))) one
        ∙ found_front (λ (r : Reading). bytes_eq (label_in r) label) (x ∷ xs) (length (x ∷ xs) - 1)

-- what was found out of the manifest at that place is so of the ones with the label
pub target_known : (rs ss : List Reading) (label : List ℕ) (m : ℕ) (e : Equality) → Some m ≡ other_place rs label
    → slice_get (equalities rs ss) m ≡ Some e → e ≡ equality_of (other_named rs label) (other_named ss label)
target_known rs ss label m e at known = by (slice_get rs m) refl
  where
    here : slice_get rs m ≡ other_named rs label
    here = ap (option_and_then (slice_get rs)) at ∙ other_is rs label

    by : (o : Option Reading) → slice_get rs m ≡ o → e ≡ equality_of (other_named rs label) (other_named ss label)
    by None is =
        let bad : None ≡ Some e =
        ap (option_map (λ (r : Reading). equality_of (Some r) (other_named ss (label_in r)))) (sym is)
        ∙ sym (slice_get-map (λ (r : Reading). equality_of (Some r) (other_named ss (label_in r))) rs m) ∙ known in
        absurd (cc (bad))
    by (Some r) is =
        let found : other_named rs label ≡ Some r = sym here ∙ is in
        let name : label_in r ≡ label =
        (bytes_eq-Decides (label_in r) label).0 (find_passes (λ (r : Reading). bytes_eq (label_in r) label) (take (length rs - 1) rs) r found) in
        let value : Some e ≡ Some (equality_of (Some r) (other_named ss (label_in r))) =
        sym known ∙ slice_get-map (λ (r : Reading). equality_of (Some r) (other_named ss (label_in r))) rs m
        ∙ ap (option_map (λ (r : Reading). equality_of (Some r) (other_named ss (label_in r)))) is in
        let same : e ≡ equality_of (Some r) (other_named ss (label_in r)) = cc (value) in
        same ∙ ap (λ l. equality_of (Some r) (other_named ss l)) name
        ∙ ap (λ o. equality_of o (other_named ss label)) (sym found)

-- the manifest at the place that a test found
pub other_found : (rs : List Reading) (label : List ℕ) (o : Option ℕ) (x : Option Reading) → o ≡ other_place rs label
    → x ≡ option_and_then (slice_get rs) o → x ≡ other_named rs label
other_found rs label o x at is = is ∙ ap (option_and_then (slice_get rs)) at ∙ other_is rs label

-- there is none
pub target_missing : (rs ss : List Reading) (label : List ℕ) (e : Equality) (x : Option Reading)
    → None ≡ other_place rs label → e ≡ equality_of None x
    → x ≡ other_named ss label → e ≡ equality_of (other_named rs label) (other_named ss label)
target_missing rs ss label e x none is other =
    let no_one : None ≡ other_named rs label = ap (option_and_then (slice_get rs)) none ∙ other_is rs label in
    is ∙ ap (equality_of None) other ∙ ap (λ o. equality_of o (other_named ss label)) no_one

-- what was found out of as many manifests is there at the place of one
pub known_at : (rs ss : List Reading) (known : List Equality) (m : ℕ) (d : Equality) → known ≡ equalities rs ss
    → m < length rs
    → slice_get (equalities rs ss) m ≡ Some (get_or known m d)
known_at rs ss known m d same lt =
    let len : length (equalities rs ss) ≡ length rs =
    length-map rs (λ (r : Reading). equality_of (Some r) (other_named ss (label_in r))) in
    slice_get-get_or (equalities rs ss) m d (omega (arith, len, lt)) ∙ ap (λ xs. Some (get_or xs m d)) (sym same)
