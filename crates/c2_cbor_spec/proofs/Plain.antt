-- A plain item, sorted, is legal, and spelled by its deterministic bytes.
use Rattle.std.proofs.Common.{◌≡◌, ℕ, ◌≤◌, List, ◌++◌, length, refl, sym, ap, subst, arith}
use Rattle.std.proofs.lemmas.List.{length-append, take_at}
use Rattle.c2_spec.specs.Cbor.Answers.{BeginsWith}
use Rattle.c2_cbor_spec.proofs.BadSimple.{fine_no_bad}
use Rattle.std.specs.Ordering.{nat_cmp, match_ordering}
use Rattle.std.specs.declared.cmp.Ordering.{Ordering}
use Rattle.std.specs.declared.cmp.Ordering.TheVariants.{Less, Equal, Greater}
use Rattle.std.specs.Cmp.Lexicographic.{slice_cmp}
use Rattle.c2_spec.specs.Cbor.Item.{Item, uint, nint, bytes, text, list, dict, tag, simple, half, single, double, Items, no_items, item, Pairs, no_pairs, pair}
use Rattle.c2_spec.specs.Cbor.Deterministic.{preferred}
use Rattle.c2_spec.specs.Cbor.Legal.{depth, items_depth, pairs_depth, IsNew, HasDistinctKeys, ItemsHaveDistinctKeys, PairsHaveDistinctKeys, IsLegal}
use Rattle.c2_spec.specs.Cbor.Spelling.{Spells}
use Rattle.c2_spec.specs.Cbor.Deterministic.{insert_pair, sorted, sorted_items, sorted_pairs, deterministic}
use Rattle.c2_spec.specs.Cbor.Plain.{DiffersFrom, HasPlainKeys, ItemsHavePlainKeys, PairsHavePlainKeys, IsPlain}
use Rattle.c2_cbor_spec.specs.Fine.{Fine, FineItems, FinePairs}
use Rattle.c2_cbor_spec.proofs.Sorting.{pairs_len-sorted, items_len-sorted}
use Rattle.c2_cbor_spec.proofs.Unique.{preferred_spells}

-- what holds at each place where a pair may be put
pub at_place : (P : Pairs → Type 0) (o : Ordering) (a b : Pairs) → P a → P b → P (match_ordering o a b b)
at_place P Less a b p q = p
at_place P Equal a b p q = q
at_place P Greater a b p q = q

-- ---- widths

-- pairs that have a spelling have one with one more such pair
fine_insert : (ps : Pairs) (k v : Item) → FinePairs ps → Fine k → Fine v → FinePairs (insert_pair ps k v)
fine_insert no_pairs k v f fk fv = (fk, fv, tt)
fine_insert (pair l w ps) k v f fk fv =
    at_place FinePairs (slice_cmp nat_cmp (preferred k) (preferred l)) _ _ (fk, fv, f)
    (f.0, f.1, fine_insert ps k v f.2 fk fv)

mutual
  -- sorted, an item that has a spelling has one
  pub fine_sorted : (v : Item) → Fine v → Fine (sorted v)
  fine_sorted (uint n) f = f
  fine_sorted (nint n) f = f
  fine_sorted (bytes b) f = f
  fine_sorted (text t) f = f
  fine_sorted (list vs) f = (omega (arith, f.0, items_len-sorted vs), fine_sorted_items vs f.1)
  fine_sorted (dict ps) f = (omega (arith, f.0, pairs_len-sorted ps), fine_sorted_pairs ps no_pairs f.1 tt)
  fine_sorted (tag n v) f = (f.0, fine_sorted v f.1)
  fine_sorted (simple a) f = f
  fine_sorted (half n) f = f
  fine_sorted (single n) f = f
  fine_sorted (double n) f = f

  -- the same of items one after the other
  fine_sorted_items : (vs : Items) → FineItems vs → FineItems (sorted_items vs)
  fine_sorted_items no_items f = tt
  fine_sorted_items (item v vs) f = (fine_sorted v f.0, fine_sorted_items vs f.1)

  -- the same of pairs that are sorted among others
  fine_sorted_pairs : (ps before : Pairs) → FinePairs ps → FinePairs before → FinePairs (sorted_pairs ps before)
  fine_sorted_pairs no_pairs before f g = g
  fine_sorted_pairs (pair k v ps) before f g =
      fine_sorted_pairs ps (insert_pair before (sorted k) (sorted v)) f.2
      (fine_insert before (sorted k) (sorted v) g (fine_sorted k f.0) (fine_sorted v f.1))

-- ---- depth

-- one more pair makes pairs no deeper than it and they are
insert_depth : (ps : Pairs) (k v : Item) (d : ℕ) → pairs_depth ps ≤ d → depth k ≤ d → depth v ≤ d
    → pairs_depth (insert_pair ps k v) ≤ d
insert_depth no_pairs k v d h hk hv = omega arith
insert_depth (pair l w ps) k v d h hk hv =
    let more : pairs_depth (insert_pair ps k v) ≤ d = insert_depth ps k v d (omega arith) hk hv in
    at_place (λ qs. pairs_depth qs ≤ d) (slice_cmp nat_cmp (preferred k) (preferred l)) (pair k v (pair l w ps))
    (pair l w (insert_pair ps k v)) (omega arith) (omega arith)

mutual
  -- sorting makes nothing deeper
  sorted_depth : (v : Item) → depth (sorted v) ≤ depth v
  sorted_depth (uint n) = omega arith
  sorted_depth (nint n) = omega arith
  sorted_depth (bytes b) = omega arith
  sorted_depth (text t) = omega arith
  sorted_depth (list vs) = omega (arith, sorted_items_depth vs)
  sorted_depth (dict ps) = omega (arith, sorted_pairs_depth ps no_pairs (pairs_depth ps) (omega arith) (omega arith))
  sorted_depth (tag n v) = omega (arith, sorted_depth v)
  sorted_depth (simple a) = omega arith
  sorted_depth (half n) = omega arith
  sorted_depth (single n) = omega arith
  sorted_depth (double n) = omega arith

  -- the same of items one after the other
  sorted_items_depth : (vs : Items) → items_depth (sorted_items vs) ≤ items_depth vs
  sorted_items_depth no_items = omega arith
  sorted_items_depth (item v vs) = omega (arith, sorted_depth v, sorted_items_depth vs)

  -- the same of pairs that are sorted among others
  sorted_pairs_depth : (ps before : Pairs) (d : ℕ) → pairs_depth ps ≤ d → pairs_depth before ≤ d
      → pairs_depth (sorted_pairs ps before) ≤ d
  sorted_pairs_depth no_pairs before d h g = g
  sorted_pairs_depth (pair k v ps) before d h g =
      sorted_pairs_depth ps (insert_pair before (sorted k) (sorted v)) d (omega arith)
      (insert_depth before (sorted k) (sorted v) d g (omega (arith, sorted_depth k)) (omega (arith, sorted_depth v)))

-- ---- keys

-- a key that is new to pairs and isn't one more is new to all of them
new_insert : (l : Item) (ps : Pairs) (k v : Item) → (l ≡ k → ⊥) → IsNew l ps → IsNew l (insert_pair ps k v)
new_insert l no_pairs k v ne h = (ne, tt)
new_insert l (pair m w ps) k v ne h =
    at_place (IsNew l) (slice_cmp nat_cmp (preferred k) (preferred m)) (pair k v (pair m w ps))
    (pair m w (insert_pair ps k v)) (ne, h) (h.0, new_insert l ps k v ne h.1)

-- distinct keys stay so with one more that is new
distinct_insert : (ps : Pairs) (k v : Item) → PairsHaveDistinctKeys ps → IsNew k ps → HasDistinctKeys k
    → HasDistinctKeys v → PairsHaveDistinctKeys (insert_pair ps k v)
distinct_insert no_pairs k v h new dk dv = (dk, dv, tt, tt)
distinct_insert (pair l w ps) k v h new dk dv =
    at_place PairsHaveDistinctKeys (slice_cmp nat_cmp (preferred k) (preferred l)) (pair k v (pair l w ps))
    (pair l w (insert_pair ps k v))
    (dk, dv, new, h) (h.0, h.1, new_insert l ps k v (λ e. new.0 (sym e)) h.2, distinct_insert ps k v h.3 new.1 dk dv)

-- no sorted key of ps is a key of before
abbrev Apart : Pairs → Pairs → Type 0
Apart no_pairs before = Unit {0}
Apart (pair k v ps) before = IsNew (sorted k) before × Apart ps before

-- sorted keys apart from those before stay so with one more that differs
apart_insert : (ps before : Pairs) (k v : Item) → DiffersFrom k ps → Apart ps before
    → Apart ps (insert_pair before (sorted k) v)
apart_insert no_pairs before k v d h = tt
apart_insert (pair l w ps) before k v d h =
    (new_insert (sorted l) before (sorted k) v (λ e. d.0 (ap preferred (sym e))) h.0, apart_insert ps before k v d.1 h.1)

-- before the first pair they are apart
apart_first : (ps : Pairs) → Apart ps no_pairs
apart_first no_pairs = tt
apart_first (pair k v ps) = (tt, apart_first ps)

mutual
  -- sorted, a plain item has distinct keys
  distinct_sorted : (v : Item) → HasPlainKeys v → HasDistinctKeys (sorted v)
  distinct_sorted (uint n) h = tt
  distinct_sorted (nint n) h = tt
  distinct_sorted (bytes b) h = tt
  distinct_sorted (text t) h = tt
  distinct_sorted (list vs) h = distinct_sorted_items vs h
  distinct_sorted (dict ps) h = distinct_sorted_pairs ps no_pairs h tt (apart_first ps)
  distinct_sorted (tag n v) h = distinct_sorted v h
  distinct_sorted (simple a) h = tt
  distinct_sorted (half n) h = tt
  distinct_sorted (single n) h = tt
  distinct_sorted (double n) h = tt

  -- the same of items one after the other
  distinct_sorted_items : (vs : Items) → ItemsHavePlainKeys vs → ItemsHaveDistinctKeys (sorted_items vs)
  distinct_sorted_items no_items h = tt
  distinct_sorted_items (item v vs) h = (distinct_sorted v h.0, distinct_sorted_items vs h.1)

  -- the same of pairs that are sorted among others
  distinct_sorted_pairs : (ps before : Pairs) → PairsHavePlainKeys ps → PairsHaveDistinctKeys before → Apart ps before
      → PairsHaveDistinctKeys (sorted_pairs ps before)
  distinct_sorted_pairs no_pairs before h g a = g
  distinct_sorted_pairs (pair k v ps) before h g a =
      distinct_sorted_pairs ps (insert_pair before (sorted k) (sorted v)) h.3
      (distinct_insert before (sorted k) (sorted v) g a.0 (distinct_sorted k h.0) (distinct_sorted v h.1))
      (apart_insert ps before k (sorted v) h.2 a.1)

-- sorted, a plain item is legal
sorted_legal : (v : Item) → Fine v → IsPlain v → IsLegal (sorted v)
sorted_legal v f p =
    record
    { shallow = omega (arith, p.legal.shallow, sorted_depth v); distinct = distinct_sorted v p.plain; no_bad_simple = fine_no_bad (sorted v) (fine_sorted v f) }

-- bytes that begin with a spelling of a legal item begin with the item
begins_with : (v : Item) (d r : List ℕ) → IsLegal v → Spells v d → BeginsWith (d ++ r) v (length d)
begins_with v d r legal p =
    record
    { legal = legal; inside = omega (arith, length-append d r); spelled = subst (Spells v) (sym (take_at d r (length d) refl)) p }

-- the deterministic bytes of a plain item begin with the sorted item
pub read_back : (v : Item) (r : List ℕ) → Fine v → IsPlain v
    → BeginsWith (deterministic v ++ r) (sorted v) (length (deterministic v))
read_back v r f p =
    begins_with (sorted v) (deterministic v) r (sorted_legal v f p) (preferred_spells (sorted v) (fine_sorted v f))
