-- How many bytes an item is written in at most: nine for each head, and the bytes of its strings.
use Rattle.c2_cbor_spec.proofs.TheLaws.{sorting_keeps_the_length}
use Rattle.std.proofs.Common.{◌≡◌, ℕ, ◌+◌, ◌*◌, ◌≤◌, Bool, true, false, cond, ltb, List, [], ◌∷◌, ◌++◌, length, map}
use Rattle.std.proofs.Common.{arith, length-append}
use Rattle.std.specs.Int.{w16, w32, w64, to_be_bytes}
use Rattle.c2_spec.specs.Cbor.Deterministic.{deterministic, preferred, preferred_items, preferred_pairs, shortest_head}
use Rattle.c2_spec.specs.Cbor.Item.{Item, uint, nint, bytes, text, list, dict, tag, simple, half, single, double, Items}
use Rattle.c2_spec.specs.Cbor.Item.{no_items, item, items_len, Pairs, no_pairs, pair, pairs_len}
use Rattle.c2_spec.specs.Cbor.View.{items_of, pairs_of}
use Rattle.c2_new_lengths_spec.specs.Lengths.{texts_len}

-- a head has nine bytes at most
head_most : (m n : ℕ) → length (shortest_head m n) ≤ 9
unfolding shortest_head
head_most m n = by_tests (ltb n 24) (ltb n 256) (ltb n 65536) (ltb n 4294967296)
  where
    by_tests : (a b c d : Bool)
        → length (cond a ((32 * m + n) ∷ []) (cond b ((32 * m + 24) ∷ n ∷ [])
        (cond c ((32 * m + 25) ∷ to_be_bytes w16 n)
        (cond d ((32 * m + 26) ∷ to_be_bytes w32 n) ((32 * m + 27) ∷ to_be_bytes w64 n))))) ≤ 9
    by_tests true b c d = omega arith
    by_tests false true c d = omega arith
    by_tests false false true d = omega arith
    by_tests false false false true = omega arith
    by_tests false false false false = omega arith

-- a simple value has two at most
simple_most : (a : ℕ) (b : Bool) → length (cond b ((224 + a) ∷ []) (248 ∷ a ∷ [])) ≤ 9
simple_most a true = omega arith
simple_most a false = omega arith

-- how many bytes an item is written in at most
abbrev mutual
  pub room : Item → ℕ
  room (uint n) = 9
  room (nint n) = 9
  room (bytes b) = 9 + length b
  room (text t) = 9 + length t
  room (list vs) = 9 + items_room vs
  room (dict ps) = 9 + pairs_room ps
  room (tag n v) = 9 + room v
  room (simple a) = 9
  room (half n) = 9
  room (single n) = 9
  room (double n) = 9

  -- items together
  pub items_room : Items → ℕ
  items_room no_items = 0
  items_room (item v vs) = room v + items_room vs

  -- keys and values together
  pub pairs_room : Pairs → ℕ
  pairs_room no_pairs = 0
  pairs_room (pair k v ps) = room k + room v + pairs_room ps

-- an item is written in at most as many bytes
mutual
  pub preferred_room : (v : Item) → length (preferred v) ≤ room v
  preferred_room (uint n) = head_most 0 n
  preferred_room (nint n) = head_most 1 n
  preferred_room (bytes b) = omega (arith, length-append (shortest_head 2 (length b)) b, head_most 2 (length b))
  preferred_room (text t) = omega (arith, length-append (shortest_head 3 (length t)) t, head_most 3 (length t))
  preferred_room (list vs) =
      omega (
        arith,
        length-append (shortest_head 4 (items_len vs)) (preferred_items vs),
        head_most 4 (items_len vs),
        items_in_room vs,
      )
  preferred_room (dict ps) =
      omega (
        arith,
        length-append (shortest_head 5 (pairs_len ps)) (preferred_pairs ps),
        head_most 5 (pairs_len ps),
        pairs_in_room ps,
      )
  preferred_room (tag n v) =
      omega (arith, length-append (shortest_head 6 n) (preferred v), head_most 6 n, preferred_room v)
  preferred_room (simple a) = simple_most a (ltb a 24)
  preferred_room (half n) = omega arith
  preferred_room (single n) = omega arith
  preferred_room (double n) = omega arith

  items_in_room : (vs : Items) → length (preferred_items vs) ≤ items_room vs
  items_in_room no_items = omega arith
  items_in_room (item v vs) =
      omega (arith, length-append (preferred v) (preferred_items vs), preferred_room v, items_in_room vs)

  pairs_in_room : (ps : Pairs) → length (preferred_pairs ps) ≤ pairs_room ps
  pairs_in_room no_pairs = omega arith
  pairs_in_room (pair k v ps) =
      omega (
        arith,
        length-append (preferred k ++ preferred v) (preferred_pairs ps),
        length-append (preferred k) (preferred v),
        preferred_room k,
        preferred_room v,
        pairs_in_room ps,
      )

-- the deterministic bytes of an item are at most as many
pub deterministic_room : (v : Item) → length (deterministic v) ≤ room v
deterministic_room v = omega (arith, sorting_keeps_the_length v, preferred_room v)

-- ---- fields and texts

-- the fields of two lists
pub both_rooms : (xs ys : List (Item × Item))
    → pairs_room (pairs_of (xs ++ ys)) ≡ pairs_room (pairs_of xs) + pairs_room (pairs_of ys)
both_rooms [] ys = omega arith
both_rooms (x ∷ xs) ys = omega (arith, both_rooms xs ys)

-- texts as items
pub texts_room : (ts : List (List ℕ)) → items_room (items_of (map text ts)) ≤ 9 * texts_len ts
texts_room [] = omega arith
texts_room (t ∷ ts) = omega (arith, texts_room ts)
