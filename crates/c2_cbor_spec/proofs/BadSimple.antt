-- An item that has a spelling has no simple value from 24 to 31.
use Rattle.std.proofs.Common.{inl, inr, arith}
use Rattle.c2_spec.specs.Cbor.Item.{Item, uint, nint, bytes, text, list, dict, tag, simple, half, single, double, Items, no_items, item, Pairs, no_pairs, pair}
use Rattle.c2_cbor_spec.specs.Fine.{Fine, FineItems, FinePairs}
use Rattle.c2_spec.specs.Cbor.Legal.{HasBadSimple, ItemsHaveBadSimple, PairsHaveBadSimple}

mutual
  -- an item that has a spelling has no simple value from 24 to 31
  pub fine_no_bad : (v : Item) → Fine v → HasBadSimple v → ⊥
  fine_no_bad (uint n) f h = h
  fine_no_bad (nint n) f h = h
  fine_no_bad (bytes b) f h = h
  fine_no_bad (text t) f h = h
  fine_no_bad (list vs) f h = fine_no_bad_items vs f.1 h
  fine_no_bad (dict ps) f h = fine_no_bad_pairs ps f.1 h
  fine_no_bad (tag n v) f h = fine_no_bad v f.1 h
  fine_no_bad (simple a) (inl f) h = omega (arith, f, h.0)
  fine_no_bad (simple a) (inr f) h = omega (arith, f.0, h.1)
  fine_no_bad (half n) f h = h
  fine_no_bad (single n) f h = h
  fine_no_bad (double n) f h = h

  -- the same of items one after the other
  fine_no_bad_items : (vs : Items) → FineItems vs → ItemsHaveBadSimple vs → ⊥
  fine_no_bad_items no_items f h = h
  fine_no_bad_items (item v vs) f (inl h) = fine_no_bad v f.0 h
  fine_no_bad_items (item v vs) f (inr h) = fine_no_bad_items vs f.1 h

  -- the same of pairs one after the other
  fine_no_bad_pairs : (ps : Pairs) → FinePairs ps → PairsHaveBadSimple ps → ⊥
  fine_no_bad_pairs no_pairs f h = h
  fine_no_bad_pairs (pair k v ps) f (inl h) = fine_no_bad k f.0 h
  fine_no_bad_pairs (pair k v ps) f (inr (inl h)) = fine_no_bad v f.1 h
  fine_no_bad_pairs (pair k v ps) f (inr (inr h)) = fine_no_bad_pairs ps f.2 h
