-- What is written of a map: pairs of keys and values as bytes, in the order of the keys.
use Rattle.std.specs.Prelude.{◌≡◌, ℕ, List, All, [], ◌∷◌, ◌++◌, map, slice_index_or}
use Rattle.std.specs.Ordering.{nat_cmp, match_ordering}
use Rattle.std.specs.Cmp.Lexicographic.{slice_cmp}
use Rattle.c2_spec.specs.Cbor.Item.{Item, simple}
use Rattle.c2_spec.specs.Cbor.View.{view}
use Rattle.c2_spec.specs.Cbor.Deterministic.{deterministic}
use Rattle.c2_spec.specs.Cbor.Plain.{HasPlainKeys}
use Rattle.c2_spec.specs.declared.cbor.Cbor.{Cbor}
use denote.Ref.{Bor}
use Rattle.c2_cbor_spec.specs.Marks.{Mark}

-- a key and a value as bytes
abbrev pub Entry : Type 0
Entry = List ℕ × List ℕ

-- sorted entries, with one more after those whose key isn't greater
abbrev pub insert_entry : List Entry → Entry → List Entry
insert_entry [] e = e ∷ []
insert_entry (x ∷ xs) e = match_ordering (slice_cmp nat_cmp e.0 x.0) (e ∷ x ∷ xs) (x ∷ insert_entry xs e) (x ∷ insert_entry xs e)

-- all their bytes
abbrev pub entry_bytes : List Entry → List ℕ
entry_bytes [] = []
entry_bytes (e ∷ es) = (e.0 ++ e.1) ++ entry_bytes es

-- the deterministic bytes of each key
abbrev pub det_keys : List (Cbor × Cbor) → List (List ℕ)
det_keys ps = map (λ p. deterministic (view p.0)) ps

-- and of each value
abbrev pub det_values : List (Cbor × Cbor) → List (List ℕ)
det_values ps = map (λ p. deterministic (view p.1)) ps

-- a mark's key, and the value at its number
abbrev pub entry_of : List (List ℕ) → Mark → Entry
entry_of vs m = (m.1, slice_index_or vs m.2 [])

-- each key is that of the pair with its number
abbrev pub AreKeysOf : List (Cbor × Cbor) → List (ℕ × Bor (List ℕ) × ℕ) → Type 0
AreKeysOf ps keys = All (λ m. m.1.now ≡ slice_index_or (det_keys ps) m.2 []) keys

-- ---- plain parts

-- in no key has a map two keys with the same bytes
abbrev pub KeysPlain : List (Cbor × Cbor) → Type 0
KeysPlain [] = Unit {0}
KeysPlain (p ∷ ps) = HasPlainKeys (view p.0) × KeysPlain ps

-- the value with this number, or null where there is none
abbrev pub value_at : List (Cbor × Cbor) → ℕ → Item
value_at ps n = slice_index_or (map (λ p. view p.1) ps) n (simple 22)

-- in no value with one of these numbers has a map two keys with the same bytes
abbrev pub ValuesPlain : List (Cbor × Cbor) → List Mark → Type 0
ValuesPlain ps [] = Unit {0}
ValuesPlain ps (m ∷ ms) = HasPlainKeys (value_at ps m.2) × ValuesPlain ps ms
