-- Sorting the pairs of an item keeps the length of its bytes.
use Rattle.std.proofs.Common.{◌≡◌, ℕ, ◌+◌, List, [], ◌++◌, length, refl, sym, ap, ◌∙◌, arith}
use Rattle.std.proofs.lemmas.List.{length-append}
use Rattle.c2_spec.specs.Cbor.Item.{Item, uint, nint, bytes, text, list, dict, tag, simple, half, single, double, Items, no_items, item, Pairs, no_pairs, pair}
use Rattle.c2_spec.specs.Cbor.Deterministic.{shortest_head, preferred, preferred_items, preferred_pairs, insert_pair, sorted, sorted_items, sorted_pairs}
use Rattle.c2_cbor_spec.proofs.Sorting.{items_len-sorted, pairs_len-sorted}
use Rattle.c2_cbor_spec.proofs.Plain.{at_place}
use Rattle.std.specs.Ordering.{nat_cmp}
use Rattle.std.specs.Cmp.Lexicographic.{slice_cmp}

-- the length of three lists one after the other
three : (a b c : List ℕ) → length (a ++ b ++ c) ≡ length a + length b + length c
three a b c = length-append (a ++ b) c ∙ ap (λ n. n + length c) (length-append a b)

-- a sum in another order
around : (l w k v p b : ℕ) → b ≡ l + w + p → l + w + (k + v + p) ≡ k + v + b
around l w k v p b e = omega arith

-- one more pair makes pairs longer by its key and its value
insert_length : (ps : Pairs) (k v : Item)
    → length (preferred_pairs (insert_pair ps k v)) ≡ length (preferred k) + length (preferred v) + length (preferred_pairs ps)
insert_length no_pairs k v = three (preferred k) (preferred v) []
insert_length (pair l w ps) k v =
    let here = three (preferred k) (preferred v) (preferred_pairs (pair l w ps)) in
    let old = three (preferred l) (preferred w) (preferred_pairs ps) in
    let new = three (preferred l) (preferred w) (preferred_pairs (insert_pair ps k v)) in
    at_place
    (λ qs. length (preferred_pairs qs) ≡ length (preferred k) + length (preferred v) + length (preferred_pairs (pair l w ps)))
    (slice_cmp nat_cmp (preferred k) (preferred l)) (pair k v (pair l w ps)) (pair l w (insert_pair ps k v)) here
    (new ∙ ap (λ n. length (preferred l) + length (preferred w) + n) (insert_length ps k v) ∙ around _ _ _ _ _ _ old)

-- adding nothing on the right changes nothing
add_none : (n : ℕ) → n + 0 ≡ n
add_none n = omega arith

-- adding nothing on the left changes nothing
none_add : (n : ℕ) → n ≡ 0 + n
none_add n = omega arith

-- a sum of parts that are equal to others, in another order
regroup : (p k v b j u w : ℕ) → j ≡ k → u ≡ v → w ≡ k + v + p → p + (j + u + b) ≡ w + b
regroup p k v b j u w e f g = omega arith

-- lists of as many members and of equal lengths have spellings of equal lengths
same_head : (m n k : ℕ) (s t : List ℕ) → n ≡ k → length s ≡ length t
    → length (shortest_head m n ++ s) ≡ length (shortest_head m k ++ t)
same_head m n k s t e f =
    length-append (shortest_head m n) s ∙ ap (λ j. length (shortest_head m j) + length s) e
    ∙ ap (λ j. length (shortest_head m k) + j) f ∙ sym (length-append (shortest_head m k) t)

mutual
  -- sorting keeps the length
  pub sorted_length : (v : Item) → length (preferred (sorted v)) ≡ length (preferred v)
  sorted_length (uint n) = refl
  sorted_length (nint n) = refl
  sorted_length (bytes b) = refl
  sorted_length (text t) = refl
  sorted_length (list vs) = same_head 4 _ _ _ _ (items_len-sorted vs) (sorted_items_length vs)
  sorted_length (dict ps) =
      same_head 5 _ _ _ _ (pairs_len-sorted ps)
      (sorted_pairs_length ps no_pairs ∙ add_none (length (preferred_pairs ps)))
  sorted_length (tag n v) = same_head 6 _ _ _ _ refl (sorted_length v)
  sorted_length (simple a) = refl
  sorted_length (half n) = refl
  sorted_length (single n) = refl
  sorted_length (double n) = refl

  -- the same of items one after the other
  sorted_items_length : (vs : Items) → length (preferred_items (sorted_items vs)) ≡ length (preferred_items vs)
  sorted_items_length no_items = refl
  sorted_items_length (item v vs) =
      length-append (preferred (sorted v)) (preferred_items (sorted_items vs))
      ∙ ap (λ n. n + length (preferred_items (sorted_items vs))) (sorted_length v)
      ∙ ap (λ n. length (preferred v) + n) (sorted_items_length vs)
      ∙ sym (length-append (preferred v) (preferred_items vs))

  -- sorting pairs among others keeps the length of both together
  sorted_pairs_length : (ps before : Pairs)
      → length (preferred_pairs (sorted_pairs ps before)) ≡ length (preferred_pairs ps) + length (preferred_pairs before)
  sorted_pairs_length no_pairs before = none_add (length (preferred_pairs before))
  sorted_pairs_length (pair k v ps) before =
      let whole : length (preferred_pairs (pair k v ps)) ≡ length (preferred k) + length (preferred v) + length (preferred_pairs ps) =
      three (preferred k) (preferred v) (preferred_pairs ps) in
      sorted_pairs_length ps (insert_pair before (sorted k) (sorted v))
      ∙ ap (λ n. length (preferred_pairs ps) + n) (insert_length before (sorted k) (sorted v))
      ∙ regroup _ _ _ _ _ _ _ (sorted_length k) (sorted_length v) whole
