-- Sorting keeps how many items and pairs there are; the deterministic bytes of a value, level by level.
use Rattle.std.proofs.Common.{◌≡◌, ℕ, suc, ◌+◌, List, ◌++◌, refl, sym, ap, ◌∙◌, Vec, vec_len, Box, arith}
use Rattle.std.specs.declared.alloc.Global.{Global}
use Rattle.std.specs.Ordering.{nat_cmp, match_ordering}
use Rattle.std.specs.declared.cmp.Ordering.{Ordering}
use Rattle.std.specs.declared.cmp.Ordering.TheVariants.{Less, Equal, Greater}
use Rattle.std.specs.Cmp.Lexicographic.{slice_cmp}
use Rattle.c2_spec.specs.Cbor.Item.{Item, Items, no_items, item, Pairs, no_pairs, pair, items_len, pairs_len}
use Rattle.c2_spec.specs.Cbor.Deterministic.{preferred, preferred_items, preferred_pairs, shortest_head, insert_pair, sorted, sorted_items, sorted_pairs, deterministic}
use Rattle.c2_spec.specs.Cbor.View.{view, items_view, pairs_view}
use Rattle.c2_spec.specs.declared.cbor.Cbor.{Cbor, List as List', Map, Tag}
use Rattle.c2_cbor_spec.proofs.Views.{view-Map, view-Tag, items_len-view, pairs_len-view}
use Rattle.c2_spec.proofs.CborViews.{view-List}

-- ---- lengths

-- a choice of one length
counted : (o : Ordering) (a b : Pairs) (n : ℕ) → pairs_len a ≡ n → pairs_len b ≡ n
    → pairs_len (match_ordering o a b b) ≡ n
counted Less a b n p q = p
counted Equal a b n p q = q
counted Greater a b n p q = q

-- one more pair
insert_len : (ps : Pairs) (k v : Item) → pairs_len (insert_pair ps k v) ≡ suc (pairs_len ps)
insert_len no_pairs k v = refl
insert_len (pair l w ps) k v =
    counted (slice_cmp nat_cmp (preferred k) (preferred l)) (pair k v (pair l w ps)) (pair l w (insert_pair ps k v))
    (suc (suc (pairs_len ps))) refl (ap suc (insert_len ps k v))

-- all of them
sorted_len : (ps before : Pairs) → pairs_len (sorted_pairs ps before) ≡ pairs_len ps + pairs_len before
sorted_len no_pairs before = omega arith
sorted_len (pair k v ps) before =
    omega (arith, sorted_len ps (insert_pair before (sorted k) (sorted v)), insert_len before (sorted k) (sorted v))

-- sorting keeps the count of items
pub items_len-sorted : (vs : Items) → items_len (sorted_items vs) ≡ items_len vs
items_len-sorted no_items = refl
items_len-sorted (item v vs) = ap suc (items_len-sorted vs)

-- and of pairs
pub pairs_len-sorted : (ps : Pairs) → pairs_len (sorted_pairs ps no_pairs) ≡ pairs_len ps
pairs_len-sorted ps = omega (arith, sorted_len ps no_pairs)

-- ---- views

-- a list's bytes
pub deterministic-List : (v : Vec Cbor Global) (n : ℕ) (vs : List Cbor) → n ≡ vec_len v → vs ≡ v.items
    → deterministic (view (List' v)) ≡ shortest_head 4 n ++ preferred_items (sorted_items (items_view vs))
deterministic-List v n vs e d =
    let len : items_len (sorted_items (items_view v.items)) ≡ n =
    omega (arith, v.ok.0, items_len-sorted (items_view v.items), items_len-view v.items) in
    ap deterministic (view-List v)
    ∙ ap (λ k. shortest_head 4 k ++ preferred_items (sorted_items (items_view v.items))) len
    ∙ ap (λ ws. shortest_head 4 n ++ preferred_items (sorted_items (items_view ws))) (sym d)

-- a map's
pub deterministic-Map : (v : Vec (Cbor × Cbor) Global) (n : ℕ) (ps : List (Cbor × Cbor)) → n ≡ vec_len v → ps ≡ v.items
    → deterministic (view (Map v)) ≡ shortest_head 5 n ++ preferred_pairs (sorted_pairs (pairs_view ps) no_pairs)
deterministic-Map v n ps e d =
    let len : pairs_len (sorted_pairs (pairs_view v.items) no_pairs) ≡ n =
    omega (arith, v.ok.0, pairs_len-sorted (pairs_view v.items), pairs_len-view v.items) in
    ap deterministic (view-Map v)
    ∙ ap (λ k. shortest_head 5 k ++ preferred_pairs (sorted_pairs (pairs_view v.items) no_pairs)) len
    ∙ ap (λ ws. shortest_head 5 n ++ preferred_pairs (sorted_pairs (pairs_view ws) no_pairs)) (sym d)

-- a tag's
pub deterministic-Tag : (n : ℕ) (v : Box Cbor Global) (w : Cbor) → w ≡ v.value
    → deterministic (view (Tag n v)) ≡ shortest_head 6 n ++ deterministic (view w)
deterministic-Tag n v w e =
    ap deterministic (view-Tag n v) ∙ ap (λ x. shortest_head 6 n ++ deterministic (view x)) (sym e)
