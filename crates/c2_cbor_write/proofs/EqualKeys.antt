-- Equal keys, found from left to right.
use Rattle.std.proofs.Common.{◌≡◌, ℕ, suc, Bool, true, false, cond, List, [], ◌∷◌, Option, Some, None, is_some, IsTrue, refl, sym, ◌∙◌, inl, inr, ◌⊎◌}
use Rattle.std.specs.BTreeMap.{is_at}
use Rattle.std.specs.Ordering.{nat_cmp}
use Rattle.std.specs.Cmp.Lexicographic.{slice_cmp}
use Rattle.c2_spec.specs.Cbor.Item.{Item, uint, nint, bytes, text, list, dict, tag, simple, half, single, double, Items, no_items, item, Pairs, no_pairs, pair}
use Rattle.c2_spec.specs.Cbor.Deterministic.{preferred}
use Rattle.c2_spec.specs.Cbor.View.{view, pairs_view}
use Rattle.c2_spec.specs.declared.cbor.Cbor.{Cbor}
use Rattle.c2_cbor_spec.specs.Reading.{is_known, with_key}
use Rattle.c2_cbor_spec.specs.Keyed.{Unknown}
use Rattle.c2_cbor_spec.specs.Tracking.{spelled, first_known, first_equal}
use Rattle.c2_spec.specs.Cbor.Legal.{IsNew, HasDistinctKeys, ItemsHaveDistinctKeys, PairsHaveDistinctKeys, HasKey}
use Rattle.c2_cbor_spec.specs.Fine.{Fine, FinePairs}
use Rattle.c2_spec.specs.Cbor.Unwritable.{HasEqualKeys, ItemsHaveEqualKeys, PairsHaveEqualKeys}
use Rattle.c2_cbor_spec.proofs.Keys.{known_new, known_with, same_at}
use Rattle.c2_cbor_spec.proofs.Unique.{preferred_same, new_from}
use Rattle.c2_lemmas.proofs.Bools.{or_cases, true_not_false}

-- a key of ps is known
abbrev pub HasKnown : List (List ℕ) → Pairs → Type 0
HasKnown seen no_pairs = ⊥
HasKnown seen (pair k v ps) = (is_known (preferred k) seen ≡ true) ⊎ HasKnown seen ps

-- none of a map's keys is known before the first
none_known : (ps : Pairs) → HasKnown [] ps → ⊥
none_known no_pairs h = h
none_known (pair k v ps) (inl e) = true_not_false false e refl
none_known (pair k v ps) (inr h) = none_known ps h

-- a key that is known once k is there is k or was known
known_before : (k : Item) (ps : Pairs) (seen : List (List ℕ)) → Fine k → FinePairs ps
    → HasKnown (with_key seen (preferred k)) ps → HasKey k ps ⊎ HasKnown seen ps
known_before k no_pairs seen fk fp h = absurd h
known_before k (pair l v ps) seen fk fp (inl e) =
    elim (or_cases (is_at (slice_cmp nat_cmp (preferred l)) (preferred k)) (is_known (preferred l) seen) (sym (known_with (preferred l) (preferred k) seen) ∙ e)) [
      | inl q ↦ inl (inl (preferred_same k l fk fp.0 (sym (same_at (preferred l) (preferred k) q))))
      | inr q ↦ inr (inl q)
    ]
known_before k (pair l v ps) seen fk fp (inr h) =
    elim (known_before k ps seen fk fp.2 h) [ inl q ↦ inl (inr q) | inr q ↦ inr (inr q) ]

-- where a first key is known when it comes, it was known before the map or equals a key of it
has_known : (seen : List (List ℕ)) (i j : ℕ) (ps : List (Cbor × Cbor)) → first_known seen i (spelled ps) ≡ Some j
    → FinePairs (pairs_view ps) → HasKnown seen (pairs_view ps) ⊎ PairsHaveEqualKeys (pairs_view ps)
has_known seen i j [] e f = absurd cc
has_known seen i j (p ∷ ps) e f =
    elim (is_known (preferred (view p.0)) seen) as (λ b. is_known (preferred (view p.0)) seen ≡ b → cond b (Some i) (first_known (with_key seen (preferred (view p.0))) (suc i) (spelled ps)) ≡ Some j → HasKnown seen (pairs_view (p ∷ ps)) ⊎ PairsHaveEqualKeys (pairs_view (p ∷ ps))) [
      | true ↦ λ k h. inl (inl k)
      | false ↦ λ k h. elim (has_known (with_key seen (preferred (view p.0))) (suc i) j ps h f.2) [
        | inl q ↦ elim (known_before (view p.0) (pairs_view ps) seen f.0 f.2 q) [ inl r ↦ inr (inl r) | inr r ↦ inl (inr r) ]
        | inr q ↦ inr (inr (inr (inr q)))
      ]
    ] refl e

-- where some key equals one before it, the map has equal keys
pub some_equal : (j : ℕ) (ps : List (Cbor × Cbor)) → first_equal ps ≡ Some j → FinePairs (pairs_view ps)
    → PairsHaveEqualKeys (pairs_view ps)
some_equal j ps e f = elim (has_known [] 0 j ps e f) [ inl h ↦ absurd (none_known (pairs_view ps) h) | inr h ↦ h ]

-- where no key is known when it comes, each is new
none_unknown : (seen : List (List ℕ)) (i : ℕ) (ps : List (Cbor × Cbor)) → first_known seen i (spelled ps) ≡ None
    → Unknown is_known seen (pairs_view ps)
none_unknown seen i [] e = tt
none_unknown seen i (p ∷ ps) e =
    elim (is_known (preferred (view p.0)) seen) as (λ b. is_known (preferred (view p.0)) seen ≡ b → cond b (Some i) (first_known (with_key seen (preferred (view p.0))) (suc i) (spelled ps)) ≡ None → Unknown is_known seen (pairs_view (p ∷ ps))) [
      | true ↦ λ k h. absurd cc
      | false ↦ λ k h. (k, none_unknown (with_key seen (preferred (view p.0))) (suc i) ps h)
    ] refl e

-- no key and no value has a map with equal keys
abbrev pub PartsDistinct : Pairs → Type 0
PartsDistinct no_pairs = Unit {0}
PartsDistinct (pair k v ps) = HasDistinctKeys k × HasDistinctKeys v × PartsDistinct ps

-- where each key is new, and keys and values have no equal keys inside, the map has none
distinct_parts : (ps : Pairs) (seen : List (List ℕ)) → PartsDistinct ps → Unknown is_known seen ps
    → PairsHaveDistinctKeys ps
distinct_parts no_pairs seen p un = tt
distinct_parts (pair k v ps) seen p un =
    (p.0, p.1, new_from k ps (with_key seen (preferred k)) (known_new (preferred k) seen) un.1, distinct_parts ps (with_key seen (preferred k)) p.2 un.1)

-- where no key equals one before it, and none inside does, the map has distinct keys
pub none_equal : (ps : List (Cbor × Cbor)) → first_equal ps ≡ None → PartsDistinct (pairs_view ps)
    → PairsHaveDistinctKeys (pairs_view ps)
none_equal ps e h = distinct_parts (pairs_view ps) [] h (none_unknown [] 0 ps e)

-- the same where a test says so: it passes, so there are equal keys
pub some_said : (ps : List (Cbor × Cbor)) (o : Option ℕ) (b : Bool) → o ≡ first_equal ps → b ≡ is_some o
    → FinePairs (pairs_view ps) → IsTrue b → PairsHaveEqualKeys (pairs_view ps)
some_said ps None true e s f h = absurd cc
some_said ps None false e s f h = absurd cc
some_said ps (Some j) b e s f h = some_equal j ps (sym e) f

-- it fails, so the keys are distinct
pub none_said : (ps : List (Cbor × Cbor)) (o : Option ℕ) (b : Bool) → o ≡ first_equal ps → b ≡ is_some o
    → PartsDistinct (pairs_view ps) → b ≡ false → PairsHaveDistinctKeys (pairs_view ps)
none_said ps None b e s d h = none_equal ps (sym e) d
none_said ps (Some j) true e s d h = absurd cc
none_said ps (Some j) false e s d h = absurd cc

-- what is left of the parts decides about all
pub record PartsLeft (all left : Pairs) : Type 0 where
  pub fine : FinePairs left
  pub yes : PairsHaveEqualKeys left → PairsHaveEqualKeys all
  pub no : PartsDistinct left → PartsDistinct all

module _ (all : Pairs) (k v : Item) (ps : Pairs) (d : PartsLeft all (pair k v ps)) where
  -- a pair whose key and value have no equal keys inside leaves the pairs after it to decide
  pub parts_next : HasDistinctKeys k → HasDistinctKeys v → PartsLeft all ps
  parts_next dk dv = record { fine = d.fine.2; yes = λ h. d.yes (inr (inr (inr h))); no = λ h. d.no (dk, dv, h) }

  -- equal keys inside a key are equal keys of the whole
  pub parts_key : HasEqualKeys k → PairsHaveEqualKeys all
  parts_key h = d.yes (inr (inl h))

  -- equal keys inside a value are equal keys of the whole
  pub parts_value : HasEqualKeys v → PairsHaveEqualKeys all
  parts_value h = d.yes (inr (inr (inl h)))

-- ---- refusals exclude each other

-- a key that is new is none of the keys
new_not_key : (k : Item) (ps : Pairs) → IsNew k ps → HasKey k ps → ⊥
new_not_key k no_pairs new h = h
new_not_key k (pair l v ps) new (inl e) = new.0 e
new_not_key k (pair l v ps) new (inr h) = new_not_key k ps new.1 h

mutual
  -- an item whose keys are distinct has no equal ones
  pub distinct_not_equal : (v : Item) → HasDistinctKeys v → HasEqualKeys v → ⊥
  distinct_not_equal (uint n) d h = h
  distinct_not_equal (nint n) d h = h
  distinct_not_equal (bytes b) d h = h
  distinct_not_equal (text t) d h = h
  distinct_not_equal (list vs) d h = distinct_not_equal_items vs d h
  distinct_not_equal (dict ps) d h = distinct_not_equal_pairs ps d h
  distinct_not_equal (tag n v) d h = distinct_not_equal v d h
  distinct_not_equal (simple a) d h = h
  distinct_not_equal (half n) d h = h
  distinct_not_equal (single n) d h = h
  distinct_not_equal (double n) d h = h

  -- the same of items one after the other
  distinct_not_equal_items : (vs : Items) → ItemsHaveDistinctKeys vs → ItemsHaveEqualKeys vs → ⊥
  distinct_not_equal_items no_items d h = h
  distinct_not_equal_items (item v vs) d (inl h) = distinct_not_equal v d.0 h
  distinct_not_equal_items (item v vs) d (inr h) = distinct_not_equal_items vs d.1 h

  -- the same of pairs one after the other
  distinct_not_equal_pairs : (ps : Pairs) → PairsHaveDistinctKeys ps → PairsHaveEqualKeys ps → ⊥
  distinct_not_equal_pairs no_pairs d h = h
  distinct_not_equal_pairs (pair k v ps) d (inl h) = new_not_key k ps d.2 h
  distinct_not_equal_pairs (pair k v ps) d (inr (inl h)) = distinct_not_equal k d.0 h
  distinct_not_equal_pairs (pair k v ps) d (inr (inr (inl h))) = distinct_not_equal v d.1 h
  distinct_not_equal_pairs (pair k v ps) d (inr (inr (inr h))) = distinct_not_equal_pairs ps d.3 h
