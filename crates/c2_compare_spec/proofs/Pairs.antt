-- The first pair whose lists differ: in a list, among the pairs of entries, and at a place.
use Rattle.std.proofs.Common.{◌≡◌, ◌≢◌, ◌⊎◌, inl, inr, ℕ, Bool, true, false, not, cond, bytes_eq, List, [], ◌∷◌, Option, Some, None, Contains, slice_get, refl, sym, ap, ◌∙◌}
use Rattle.std.specs.List.{find}
use Rattle.std.specs.Option.{option_and_then, option_map_or}
use Rattle.std.proofs.lemmas.Bool.Decides.{not_from_Decides}
use Rattle.std.proofs.lemmas.Option.{same_Some}
use Rattle.std.proofs.lemmas.Slice.Eq.{bytes_eq-Decides}
use Rattle.c2_spec.specs.declared.cbor.Ref.{Ref}
use Rattle.c2_rules.specs.Chains.{entry_label, is_reached}
use Rattle.c2_rules.specs.Readings.{Reading, entries_in}
use Rattle.c2_compare_spec.specs.Differences.{counterpart, entry_pairs, pairs_between, pairs_at}
use Rattle.c2_compare_spec.specs.Evidence.{ListPair, do_differ}
use Rattle.c2_compare_spec.proofs.Lists.{bool_cases, found_flat, none_flat}

-- ---- one pair and more

-- by whether the first pair's lists are equal
found_by : (p : ListPair) (ps : List ListPair) (q : ListPair) (b : Bool) → bytes_eq p.left p.right ≡ b
    → cond (not b) (Some p) (find do_differ ps) ≡ Some q
    → ((p ≡ q) × (p.left ≢ p.right)) ⊎ ((p.left ≡ p.right) × (find do_differ ps ≡ Some q))
found_by p ps q true t e = inr ((bytes_eq-Decides p.left p.right).0 t, e)
found_by p ps q false t e =
    inl (same_Some p q e, not_from_Decides (bytes_eq p.left p.right) (bytes_eq-Decides p.left p.right) t)

-- the first difference is the first pair, or its lists are equal and it is found among the others
pub found_pair : (p : ListPair) (ps : List ListPair) (q : ListPair) → find do_differ (p ∷ ps) ≡ Some q
    → ((p ≡ q) × (p.left ≢ p.right)) ⊎ ((p.left ≡ p.right) × (find do_differ ps ≡ Some q))
found_pair p ps q e = found_by p ps q (bytes_eq p.left p.right) refl e

-- the first difference of a pair alone is the pair, whose lists differ
pub found_only : (p q : ListPair) → find do_differ (p ∷ []) ≡ Some q → (p ≡ q) × (p.left ≢ p.right)
found_only p q e =
    elim (found_pair p [] q e) [
      | inl own ↦ own
      | inr rest ↦ absurd (let bad = rest.1 in cc (bad))
    ]

-- by whether the first pair's lists are equal
none_by : (p : ListPair) (ps : List ListPair) (b : Bool) → bytes_eq p.left p.right ≡ b
    → cond (not b) (Some p) (find do_differ ps) ≡ None → (p.left ≡ p.right) × (find do_differ ps ≡ None)
none_by p ps true t e = ((bytes_eq-Decides p.left p.right).0 t, e)
none_by p ps false t e = absurd cc

-- without a difference the first pair's lists are equal, and the others have none
pub none_pair : (p : ListPair) (ps : List ListPair) → find do_differ (p ∷ ps) ≡ None
    → (p.left ≡ p.right) × (find do_differ ps ≡ None)
none_pair p ps e = none_by p ps (bytes_eq p.left p.right) refl e

-- ---- the pairs of entries

-- A first difference is among the pairs of an entry with a label.
pub record FoundEntry (pairs : Ref → List ℕ → List ListPair) (r : Reading) (p : ListPair) : Type 0 where
  pub entry : Ref
  pub lists : Contains (entries_in r) entry
  pub label : List ℕ
  pub is_label : entry_label r.manifest entry ≡ Some label
  pub found : find do_differ (pairs entry label) ≡ Some p

-- what is found among the pairs of entries is found so
pub found_entry : (pairs : Ref → List ℕ → List ListPair) (r : Reading) (p : ListPair)
    → find do_differ (entry_pairs pairs r) ≡ Some p → FoundEntry pairs r p
found_entry pairs r p e =
    let f = found_flat do_differ (λ (x : Ref). option_map_or (pairs x) (entry_label r.manifest x) [])
    (entries_in r) p e in
    by f.0 f.1 (entry_label r.manifest f.0) refl f.2
  where
    by : (x : Ref) → Contains (entries_in r) x → (o : Option (List ℕ)) → entry_label r.manifest x ≡ o
        → find do_differ (option_map_or (pairs x) o []) ≡ Some p → FoundEntry pairs r p
    by x c None is found = absurd (cc (found))
    by x c (Some label) is found =
        record { entry = x; lists = c; label = label; is_label = is; found = found }

-- without a difference none is among the pairs of any
pub none_entry : (pairs : Ref → List ℕ → List ListPair) (r : Reading)
    → find do_differ (entry_pairs pairs r) ≡ None
    → (x : Ref) (label : List ℕ) → Contains (entries_in r) x → entry_label r.manifest x ≡ Some label
    → find do_differ (pairs x label) ≡ None
none_entry pairs r e x label c is =
    sym (ap (λ o. find do_differ (option_map_or (pairs x) o [])) is)
    ∙ none_flat do_differ (λ (y : Ref). option_map_or (pairs y) (entry_label r.manifest y) []) (entries_in r)
    e x c

-- ---- the pairs at a place

-- of a reached manifest with a counterpart the pairs are those of both
pub pairs_are : (pairs : ℕ → Reading → Reading → List ListPair) (rs ss : List Reading) (n : ℕ) (r s : Reading)
    → is_reached rs n ≡ true → slice_get rs n ≡ Some r → counterpart rs ss n r ≡ Some s
    → pairs_at pairs rs ss n ≡ pairs n r s
pairs_are pairs rs ss n r s reached at is =
    ap (λ b. cond b (pairs_between (pairs n) (slice_get rs n)
    (option_and_then (counterpart rs ss n) (slice_get rs n))) []) reached
    ∙ ap (λ o. pairs_between (pairs n) o (option_and_then (counterpart rs ss n) o)) at
    ∙ ap (pairs_between (pairs n) (Some r)) is

-- where there is a difference at a place, its manifest is reached
pub found_reached : (pairs : ℕ → Reading → Reading → List ListPair) (rs ss : List Reading) (n : ℕ)
    (p : ListPair)
    → find do_differ (pairs_at pairs rs ss n) ≡ Some p → is_reached rs n ≡ true
found_reached pairs rs ss n p e =
    elim (bool_cases (is_reached rs n)) [
      | inl reached ↦ reached
      | inr other ↦
          let none : find do_differ (pairs_at pairs rs ss n) ≡ None =
          ap (λ b. find do_differ
          (cond b (pairs_between (pairs n) (slice_get rs n)
          (option_and_then (counterpart rs ss n) (slice_get rs n))) [])) other in
          absurd (let bad = sym none ∙ e in cc (bad))
    ]
