-- Sorted pairs rise by their keys' bytes, and pairs whose keys have the same bytes stay in their order.
use Rattle.std.proofs.Common.{◌≡◌, ℕ, true, false, cond, List, refl, sym, ap, ◌∙◌}
use Rattle.std.specs.Str.{bytes_eq}
use Rattle.std.specs.Cmp.Lexicographic.{slice_cmp, bytes_decides}
use Rattle.std.specs.Ordering.{nat_cmp, match_ordering, ordering_reverse}
use Rattle.std.specs.declared.cmp.Ordering.{Ordering}
use Rattle.std.specs.declared.cmp.Ordering.TheVariants.{Less, Equal, Greater}
use Rattle.std.proofs.lemmas.Cmp.{nat_list_cmp_total}
use Rattle.c2_spec.specs.Cbor.Item.{Item, Pairs, no_pairs, pair}
use Rattle.c2_spec.specs.Cbor.Deterministic.{preferred, sorted, insert_pair, sorted_pairs, each_sorted, pairs_with, NoneBelow, KeysRise}

-- the order of keys by their bytes
abbrev cmp : List ℕ → List ℕ → Ordering
cmp = slice_cmp nat_cmp

-- ---- keys rise

-- a greater one isn't less
not_below : (a b : List ℕ) → cmp a b ≡ Less → cmp b a ≡ Less → ⊥
not_below a b e f = let clash : Less ≡ Greater = sym f ∙ nat_list_cmp_total.antisymm b a ∙ ap ordering_reverse e in cc

-- what isn't less than b isn't less than a lesser a
lower : (a b : List ℕ) (ps : Pairs) → cmp a b ≡ Less → NoneBelow b ps → NoneBelow a ps
lower a b no_pairs e h = tt
lower a b (pair k v ps) e h = (λ f. h.0 (nat_list_cmp_total.trans (preferred k) a b f e), lower a b ps e h.1)

-- one more pair that isn't less
none_insert : (b : List ℕ) (ps : Pairs) (k v : Item) → NoneBelow b ps → (cmp (preferred k) b ≡ Less → ⊥)
    → NoneBelow b (insert_pair ps k v)
none_insert b no_pairs k v h n = (n, tt)
none_insert b (pair l w ps) k v h n = elim (cmp (preferred k) (preferred l)) as (λ o. NoneBelow b (match_ordering o (pair k v (pair l w ps)) (pair l w (insert_pair ps k v)) (pair l w (insert_pair ps k v)))) [
  | Less ↦ (n, h)
  | Equal ↦ (h.0, none_insert b ps k v h.1 n)
  | Greater ↦ (h.0, none_insert b ps k v h.1 n)
]

-- one more pair keeps the rise
insert_rises : (ps : Pairs) (k v : Item) → KeysRise ps → KeysRise (insert_pair ps k v)
insert_rises no_pairs k v h = (tt, tt)
insert_rises (pair l w ps) k v h = elim (cmp (preferred k) (preferred l)) as (λ o. cmp (preferred k) (preferred l) ≡ o → KeysRise (match_ordering o (pair k v (pair l w ps)) (pair l w (insert_pair ps k v)) (pair l w (insert_pair ps k v)))) [
  | Less ↦ λ e. ((not_below (preferred k) (preferred l) e, lower (preferred k) (preferred l) ps e h.0), h)
  | Equal ↦ λ e. (none_insert (preferred l) ps k v h.0 (λ f. let clash : Equal ≡ Less = sym e ∙ f in cc), insert_rises ps k v h.1)
  | Greater ↦ λ e. (none_insert (preferred l) ps k v h.0 (λ f. let clash : Greater ≡ Less = sym e ∙ f in cc), insert_rises ps k v h.1)
] refl

-- so do all
pub sorted_rise : (ps before : Pairs) → KeysRise before → KeysRise (sorted_pairs ps before)
sorted_rise no_pairs before h = h
sorted_rise (pair k v ps) before h =
    sorted_rise ps (insert_pair before (sorted k) (sorted v)) (insert_rises before (sorted k) (sorted v) h)

-- ---- pairs stay

-- pairs, and then others
abbrev then_pairs : Pairs → Pairs → Pairs
then_pairs no_pairs qs = qs
then_pairs (pair k v ps) qs = pair k v (then_pairs ps qs)

-- one more at the end
abbrev push : Pairs → Item → Item → Pairs
push ps k v = then_pairs ps (pair k v no_pairs)

-- one more and then others
push_then : (ps : Pairs) (k v : Item) (qs : Pairs) → then_pairs (push ps k v) qs ≡ then_pairs ps (pair k v qs)
push_then no_pairs k v qs = refl
push_then (pair l w ps) k v qs = ap (pair l w) (push_then ps k v qs)

-- nothing more
then_nothing : (ps : Pairs) → then_pairs ps no_pairs ≡ ps
then_nothing no_pairs = refl
then_nothing (pair k v ps) = ap (pair k v) (then_nothing ps)

-- those of both
with_then : (b : List ℕ) (ps qs : Pairs)
    → pairs_with b (then_pairs ps qs) ≡ then_pairs (pairs_with b ps) (pairs_with b qs)
with_then b no_pairs qs = refl
with_then b (pair k v ps) qs = elim (bytes_eq (preferred k) b) as (λ t. cond t (pair k v (pairs_with b (then_pairs ps qs))) (pairs_with b (then_pairs ps qs)) ≡ then_pairs (cond t (pair k v (pairs_with b ps)) (pairs_with b ps)) (pairs_with b qs)) [
  | true ↦ ap (pair k v) (with_then b ps qs)
  | false ↦ with_then b ps qs
]

-- none has the bytes of a key that is less
none_with : (b c : List ℕ) (ps : Pairs) → cmp b c ≡ Less → NoneBelow c ps → pairs_with b ps ≡ no_pairs
none_with b c no_pairs e h = refl
none_with b c (pair k v ps) e h = elim (bytes_eq (preferred k) b) as (λ t. bytes_eq (preferred k) b ≡ t → cond t (pair k v (pairs_with b ps)) (pairs_with b ps) ≡ no_pairs) [
  | true ↦ λ f. absurd (h.0 (ap (λ x. cmp x c) ((bytes_decides (preferred k) b).0 f) ∙ e))
  | false ↦ λ f. none_with b c ps e h.1
] refl

-- none is less than itself
not_itself : (a : List ℕ) → cmp a a ≡ Less → ⊥
not_itself a e = not_below a a e e

-- a pair before greater ones might stand at their end
with_first : (b : List ℕ) (k v l w : Item) (ps : Pairs) → cmp (preferred k) (preferred l) ≡ Less
    → NoneBelow (preferred l) ps
    → pairs_with b (pair k v (pair l w ps)) ≡ then_pairs (pairs_with b (pair l w ps)) (pairs_with b (pair k v no_pairs))
with_first b k v l w ps e h = elim (bytes_eq (preferred k) b) as (λ t. bytes_eq (preferred k) b ≡ t → cond t (pair k v (pairs_with b (pair l w ps))) (pairs_with b (pair l w ps)) ≡ then_pairs (pairs_with b (pair l w ps)) (cond t (pair k v no_pairs) no_pairs)) [
  | true ↦ λ f.
      let same : preferred k ≡ b = (bytes_decides (preferred k) b).0 f in
      let less : cmp b (preferred l) ≡ Less = ap (λ x. cmp x (preferred l)) (sym same) ∙ e in
      let none : pairs_with b (pair l w ps) ≡ no_pairs =
      none_with b (preferred l) (pair l w ps) less (not_itself (preferred l), h) in
      ap (pair k v) none ∙ sym (ap (λ qs. then_pairs qs (pair k v no_pairs)) none)
  | false ↦ λ f. sym (then_nothing (pairs_with b (pair l w ps)))
] refl

-- inserting a pair is putting it at the end, as far as keys with the same bytes go
insert_with : (b : List ℕ) (ps : Pairs) (k v : Item) → KeysRise ps
    → pairs_with b (insert_pair ps k v) ≡ pairs_with b (push ps k v)
insert_with b no_pairs k v h = refl
insert_with b (pair l w ps) k v h = elim (cmp (preferred k) (preferred l)) as (λ o. cmp (preferred k) (preferred l) ≡ o → pairs_with b (match_ordering o (pair k v (pair l w ps)) (pair l w (insert_pair ps k v)) (pair l w (insert_pair ps k v))) ≡ pairs_with b (push (pair l w ps) k v)) [
  | Less ↦ λ e. with_first b k v l w ps e h.0 ∙ sym (with_then b (pair l w ps) (pair k v no_pairs))
  | Equal ↦ λ e. ap (λ qs. cond (bytes_eq (preferred l) b) (pair l w qs) qs) (insert_with b ps k v h.1)
  | Greater ↦ λ e. ap (λ qs. cond (bytes_eq (preferred l) b) (pair l w qs) qs) (insert_with b ps k v h.1)
] refl

-- pairs with the same bytes stay
pub sorted_stay : (b : List ℕ) (ps before : Pairs) → KeysRise before
    → pairs_with b (sorted_pairs ps before) ≡ pairs_with b (then_pairs before (each_sorted ps))
sorted_stay b no_pairs before h = ap (pairs_with b) (sym (then_nothing before))
sorted_stay b (pair k v ps) before h =
    sorted_stay b ps (insert_pair before (sorted k) (sorted v)) (insert_rises before (sorted k) (sorted v) h)
    ∙ with_then b (insert_pair before (sorted k) (sorted v)) (each_sorted ps)
    ∙ ap (λ qs. then_pairs qs (pairs_with b (each_sorted ps))) (insert_with b before (sorted k) (sorted v) h)
    ∙ sym (with_then b (push before (sorted k) (sorted v)) (each_sorted ps))
    ∙ ap (pairs_with b) (push_then before (sorted k) (sorted v) (each_sorted ps))
