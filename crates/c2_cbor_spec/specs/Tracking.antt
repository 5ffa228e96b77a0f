-- The keys of a map in the order of its pairs, and the first that equals one before it.
use Rattle.std.specs.Prelude.{◌≡◌, ℕ, suc, List, [], ◌∷◌, map, Option, Some, None, if◌then◌else◌, slice_index}
use Rattle.std.specs.Ordering.{nat_cmp}
use Rattle.std.specs.declared.cmp.Ordering.TheVariants.{Greater}
use Rattle.std.specs.Cmp.Lexicographic.{slice_cmp}
use Rattle.c2_spec.specs.Cbor.Item.{Pairs, no_pairs, pair}
use Rattle.c2_spec.specs.Cbor.View.{view}
use Rattle.c2_spec.specs.Cbor.Deterministic.{preferred}
use Rattle.c2_spec.specs.declared.cbor.Cbor.{Cbor}
use Rattle.c2_cbor_spec.specs.declared.fault.Fault.TheVariants.{DuplicateKey}
use Rattle.c2_cbor_spec.specs.declared.fault.ReadError.{ReadError}
use Rattle.c2_cbor_spec.specs.declared.fault.ReadError.TheVariants as errors
use Rattle.c2_cbor_spec.specs.Reading.{is_known, with_key}

-- the keys' spellings
abbrev pub spelled : List (Cbor × Cbor) → List (List ℕ)
spelled ps = map (λ p. preferred (view p.0)) ps

-- the keys that are known once these are, too
abbrev pub known_after : List (List ℕ) → List (List ℕ) → List (List ℕ)
known_after seen [] = seen
known_after seen (k ∷ ks) = known_after (with_key seen k) ks

-- the place, counted from i, of the first key that is known when it comes
abbrev pub first_known : List (List ℕ) → ℕ → List (List ℕ) → Option ℕ
first_known seen i [] = None
first_known seen i (k ∷ ks) = if is_known k seen then Some i else first_known (with_key seen k) (suc i) ks

-- the same of the pairs of a map
abbrev pub seen_after : List (List ℕ) → Pairs → List (List ℕ)
seen_after seen no_pairs = seen
seen_after seen (pair k v ps) = seen_after (with_key seen (preferred k)) ps

-- the keys that are known once these pairs are read
abbrev pub keys_of : List (Cbor × Cbor) → List (List ℕ)
keys_of ps = known_after [] (spelled ps)

-- the number of the first key that equals one before it
abbrev pub first_equal : List (Cbor × Cbor) → Option ℕ
first_equal ps = first_known [] 0 (spelled ps)

-- the fault of a map whose first such key is at r, where each key has its place in the bytes
abbrev pub RepeatFault : Option ℕ → List ℕ → ReadError → Type 0
RepeatFault r places errors.Memory = Unit {0}
RepeatFault r places (errors.Fault f) = (j : ℕ) × (r ≡ Some j) × (f ≡ DuplicateKey (slice_index places j))

-- none of the keys is greater than the last
abbrev pub NoneAbove : List ℕ → List (List ℕ) → Type 0
NoneAbove last [] = Unit {0}
NoneAbove last (k ∷ ks) = (slice_cmp nat_cmp k last ≡ Greater → ⊥) × NoneAbove last ks
