-- Entries behind others: what is true of both is true of all.
use Rattle.std.proofs.Common.{◌≡◌, ◌⊎◌, inl, inr, ℕ, ◌+◌, ◌≤◌, List, [], ◌∷◌, ◌++◌, length, refl, ap, arith}
use Rattle.std.proofs.lemmas.List.{length-append}
use Rattle.c2_spec.specs.declared.cbor.Cbor.{Cbor}
use Rattle.c2_spec.specs.Cbor.Item.{Item, Pairs, no_pairs, pair, pairs_len}
use Rattle.c2_spec.specs.Cbor.Deterministic.{preferred, preferred_pairs}
use Rattle.c2_spec.specs.Cbor.Legal.{pairs_depth, IsNew, PairsHaveDistinctKeys, PairsHaveBadSimple}
use Rattle.c2_spec.specs.Cbor.Plain.{DiffersFrom, PairsHavePlainKeys}
use Rattle.c2_spec.specs.Cbor.View.{view, pairs_view}
use Rattle.c2_spec.specs.C2pa.Message.{pairs_then}

-- nothing behind changes nothing
pub then_none : (ps : Pairs) → pairs_then ps no_pairs ≡ ps
then_none no_pairs = refl
then_none (pair k v ps) = ap (pair k v) (then_none ps)

-- what stands behind may be put together first
pub then_then : (ps qs rs : Pairs) → pairs_then (pairs_then ps qs) rs ≡ pairs_then ps (pairs_then qs rs)
then_then no_pairs qs rs = refl
then_then (pair k v ps) qs rs = ap (pair k v) (then_then ps qs rs)

-- one more pair of a list stands behind the others
pub view_push : (old : List (Cbor × Cbor)) (k v : Cbor)
    → pairs_view (old ++ (k, v) ∷ []) ≡ pairs_then (pairs_view old) (pair (view k) (view v) no_pairs)
view_push [] k v = refl
view_push (p ∷ old) k v = ap (pair (view p.0) (view p.1)) (view_push old k v)

-- how many there are
pub then_count : (ps qs : Pairs) → pairs_len (pairs_then ps qs) ≡ pairs_len ps + pairs_len qs
then_count no_pairs qs = omega arith
then_count (pair k v ps) qs = omega (arith, then_count ps qs)

-- how many bytes they have
pub then_bytes : (ps qs : Pairs)
    → length (preferred_pairs (pairs_then ps qs)) ≡ length (preferred_pairs ps) + length (preferred_pairs qs)
then_bytes no_pairs qs = omega arith
then_bytes (pair k v ps) qs =
    omega
    (arith, then_bytes ps qs, length-append (preferred k ++ preferred v) (preferred_pairs (pairs_then ps qs)), length-append (preferred k ++ preferred v) (preferred_pairs ps))

-- how deep they are
pub then_depth : (ps qs : Pairs) (d : ℕ) → pairs_depth ps ≤ d → pairs_depth qs ≤ d → pairs_depth (pairs_then ps qs) ≤ d
then_depth no_pairs qs d g h = h
then_depth (pair k v ps) qs d g h = let more = then_depth ps qs d (omega arith) h in omega arith

-- a bad Simple is in the one or in the other
pub then_bad : (ps qs : Pairs) → PairsHaveBadSimple (pairs_then ps qs) → PairsHaveBadSimple ps ⊎ PairsHaveBadSimple qs
then_bad no_pairs qs h = inr h
then_bad (pair k v ps) qs (inl h) = inl (inl h)
then_bad (pair k v ps) qs (inr (inl h)) = inl (inr (inl h))
then_bad (pair k v ps) qs (inr (inr h)) = elim (then_bad ps qs h) [ inl g ↦ inl (inr (inr g)) | inr g ↦ inr g ]

-- a key that is new to both
then_new : (k : Item) (ps qs : Pairs) → IsNew k ps → IsNew k qs → IsNew k (pairs_then ps qs)
then_new k no_pairs qs g h = h
then_new k (pair l v ps) qs g h = (g.0, then_new k ps qs g.1 h)

-- a key whose bytes are new to both
then_differs : (k : Item) (ps qs : Pairs) → DiffersFrom k ps → DiffersFrom k qs → DiffersFrom k (pairs_then ps qs)
then_differs k no_pairs qs g h = h
then_differs k (pair l v ps) qs g h = (g.0, then_differs k ps qs g.1 h)

-- each key of the first is new to the second, and so are its bytes
abbrev pub AreApart : Pairs → Pairs → Type 0
AreApart no_pairs qs = Unit {0}
AreApart (pair k v ps) qs = IsNew k qs × DiffersFrom k qs × AreApart ps qs

-- pairs with distinct keys, whose keys are apart, have distinct keys together
pub then_distinct : (ps qs : Pairs) → PairsHaveDistinctKeys ps → PairsHaveDistinctKeys qs → AreApart ps qs
    → PairsHaveDistinctKeys (pairs_then ps qs)
then_distinct no_pairs qs g h a = h
then_distinct (pair k v ps) qs g h a = (g.0, g.1, then_new k ps qs g.2 a.0, then_distinct ps qs g.3 h a.2)

-- pairs with plain keys, whose keys are apart, have plain keys together
pub then_plain : (ps qs : Pairs) → PairsHavePlainKeys ps → PairsHavePlainKeys qs → AreApart ps qs
    → PairsHavePlainKeys (pairs_then ps qs)
then_plain no_pairs qs g h a = h
then_plain (pair k v ps) qs g h a = (g.0, g.1, then_differs k ps qs g.2 a.1, then_plain ps qs g.3 h a.2)
