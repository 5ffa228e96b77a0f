-- Maps that are written (RFC 8949, section 3.1), as lists of their fields: a field that is absent is left out. Also a reference to a
-- box with its digest (C2PA Technical Specification 2.x, "Hashed URIs"), in deterministic order.
use Rattle.std.specs.Prelude.{ℕ, List, [], ◌∷◌, ◌++◌, codes, Some, None}
use Rattle.std.specs.declared.option.Option.{Option}
use Rattle.c2_spec.specs.Cbor.Item.{Item, bytes, dict, text}
use Rattle.c2_spec.specs.Cbor.View.{pairs_of, view}
use Rattle.c2_spec.specs.declared.cbor.Cbor.{Cbor}
use Rattle.c2_spec.specs.declared.cbor.Ref.{Ref}

-- the names and values of a map's pairs
abbrev pub pair_view : Cbor × Cbor → Item × Item
pair_view p = (view p.0, view p.1)

-- a field of a map
abbrev pub field : List ℕ → Item → Item × Item
field key v = (text key, v)

-- a field that may be absent
abbrev pub field_if : {A : Type 0} → List ℕ → (A → Item) → Option A → List (Item × Item)
field_if key item None = []
field_if key item (Some x) = field key (item x) ∷ []

-- a reference
abbrev pub ref_item : Ref → Item
ref_item r =
    dict (pairs_of (field_if (codes "alg") text r.alg ++ field (codes "url") (text r.url) ∷ field (codes "hash") (bytes r.hash) ∷ []))
