-- Keys that a reader takes to be new, in terms of the spellings that it keeps.
use Rattle.std.specs.Prelude.{◌≡◌, ℕ, false, List, []}
use Rattle.c2_spec.specs.Cbor.Item.{Item, uint, nint, bytes, text, list, dict, tag, simple, half, single, double, Items, no_items, item, Pairs, no_pairs, pair}
use Rattle.c2_spec.specs.Cbor.Deterministic.{preferred}
use Rattle.c2_cbor_spec.specs.Reading.{Known, with_key}

-- no key is known when it comes
abbrev pub Unknown : Known → List (List ℕ) → Pairs → Type 0
Unknown known seen no_pairs = Unit {0}
Unknown known seen (pair k v ps) = (known (preferred k) seen ≡ false) × Unknown known (with_key seen (preferred k)) ps

abbrev mutual
  -- no key of a map in it is known when it comes
  pub Keyed : Known → Item → Type 0
  Keyed known (uint n) = Unit {0}
  Keyed known (nint n) = Unit {0}
  Keyed known (bytes b) = Unit {0}
  Keyed known (text t) = Unit {0}
  Keyed known (list vs) = ItemsKeyed known vs
  Keyed known (dict ps) = PairsKeyed known ps × Unknown known [] ps
  Keyed known (tag n v) = Keyed known v
  Keyed known (simple a) = Unit {0}
  Keyed known (half n) = Unit {0}
  Keyed known (single n) = Unit {0}
  Keyed known (double n) = Unit {0}

  -- the same of each item of a list
  pub ItemsKeyed : Known → Items → Type 0
  ItemsKeyed known no_items = Unit {0}
  ItemsKeyed known (item v vs) = Keyed known v × ItemsKeyed known vs

  -- the same inside each key and value of a map
  pub PairsKeyed : Known → Pairs → Type 0
  PairsKeyed known no_pairs = Unit {0}
  PairsKeyed known (pair k v ps) = Keyed known k × Keyed known v × PairsKeyed known ps
