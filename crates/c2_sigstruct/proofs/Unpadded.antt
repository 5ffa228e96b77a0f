-- Without its entries of padding, the header of a padded message that is read is the message's own, sorted.
use Rattle.std.proofs.Common.{◌≡◌, ◌≢◌, ℕ, Bool, true, false, ◌||◌, cond, List, replicate, codes, Option, Some, None, refl, sym, ap, subst, ◌∙◌}
use Rattle.std.specs.Ordering.{nat_cmp, match_ordering}
use Rattle.std.specs.declared.cmp.Ordering.{Ordering}
use Rattle.std.specs.declared.cmp.Ordering.TheVariants.{Less, Equal, Greater}
use Rattle.std.specs.Cmp.Lexicographic.{slice_cmp}
use Rattle.std.specs.Str.{bytes_eq}
use Rattle.std.proofs.lemmas.Slice.Eq.{bytes_eq-Decides}
use Rattle.c2_spec.specs.Cbor.Item.{Item, uint, nint, bytes, text, list, dict, tag, simple, half, single, double, Pairs, no_pairs, pair}
use Rattle.c2_spec.specs.Cbor.Deterministic.{preferred, insert_pair, sorted, sorted_pairs}
use Rattle.c2_spec.specs.C2pa.Sign1.{SignParts}
use Rattle.c2_spec.specs.C2pa.Message.{pairs_then, with_entries, padded_read, HasNoText, CanBePadded, is_padding, without_padding, header_without_padding}
use Rattle.c2_pad.specs.declared.types.Fill.{Fill}
use Rattle.c2_pad.specs.Fill.{zeros_before, fill_pairs}

-- what holds at each place where a pair may be put
at_place : (P : Pairs → Type 0) (o : Ordering) (a b : Pairs) → P a → P b → P (match_ordering o a b b)
at_place P Less a b p q = p
at_place P Equal a b p q = q
at_place P Greater a b p q = q

-- no key is one of padding
abbrev NonePads : Pairs → Type 0
NonePads no_pairs = Unit {0}
NonePads (pair k v ps) = (is_padding k ≡ false) × NonePads ps

-- no pair is left out where no key is one of padding
none_lost : (ps : Pairs) → NonePads ps → without_padding ps ≡ ps
none_lost no_pairs h = refl
none_lost (pair k v ps) h = rw h.0 (ap (pair k v) (none_lost ps h.1))

-- one more pair that isn't padding
insert_other : (ps : Pairs) (k v : Item) → NonePads ps → is_padding k ≡ false → NonePads (insert_pair ps k v)
insert_other no_pairs k v h own = (own, tt)
insert_other (pair l w ps) k v h own =
    at_place NonePads (slice_cmp nat_cmp (preferred k) (preferred l)) (pair k v (pair l w ps))
    (pair l w (insert_pair ps k v))
    (own, h) (h.0, insert_other ps k v h.1 own)

-- one more pair of padding is left out
insert_pad : (ps : Pairs) (k v : Item) → is_padding k ≡ true → without_padding (insert_pair ps k v) ≡ without_padding ps
insert_pad no_pairs k v own = rw own refl
insert_pad (pair l w ps) k v own =
    at_place (λ qs. without_padding qs ≡ without_padding (pair l w ps)) (slice_cmp nat_cmp (preferred k) (preferred l))
    (pair k v (pair l w ps)) (pair l w (insert_pair ps k v))
    (rw own refl) (ap (λ qs. cond (is_padding l) qs (pair l w qs)) (insert_pad ps k v own))

-- a text that is neither key isn't one of padding
text_other : (t : List ℕ) → text t ≢ text (codes "pad") → text t ≢ text (codes "pad2")
    → (bytes_eq t (codes "pad") || bytes_eq t (codes "pad2")) ≡ false
text_other t a b = by_tests (bytes_eq t (codes "pad")) (bytes_eq t (codes "pad2")) refl refl
  where
    by_tests : (x y : Bool) → bytes_eq t (codes "pad") ≡ x → bytes_eq t (codes "pad2") ≡ y → (x || y) ≡ false
    by_tests true y e f = absurd (a (ap text ((bytes_eq-Decides t (codes "pad")).0 e)))
    by_tests false true e f = absurd (b (ap text ((bytes_eq-Decides t (codes "pad2")).0 f)))
    by_tests false false e f = refl

-- a key that is neither key of padding isn't one, sorted
key_other : (k : Item) → k ≢ text (codes "pad") → k ≢ text (codes "pad2") → is_padding (sorted k) ≡ false
key_other (uint n) a b = refl
key_other (nint n) a b = refl
key_other (bytes x) a b = refl
key_other (text t) a b = text_other t a b
key_other (list vs) a b = refl
key_other (dict ps) a b = refl
key_other (tag n v) a b = refl
key_other (simple n) a b = refl
key_other (half n) a b = refl
key_other (single n) a b = refl
key_other (double n) a b = refl

-- entries without these keys have none when they are sorted
sorted_other : (ps before : Pairs) → HasNoText (codes "pad") ps → HasNoText (codes "pad2") ps → NonePads before
    → NonePads (sorted_pairs ps before)
sorted_other no_pairs before a b h = h
sorted_other (pair k v ps) before a b h =
    sorted_other ps (insert_pair before (sorted k) (sorted v)) a.1 b.1
    (insert_other before (sorted k) (sorted v) h (key_other k a.0 b.0))

-- what stands behind is sorted after
sorted_then : (ps qs before : Pairs) → sorted_pairs (pairs_then ps qs) before ≡ sorted_pairs qs (sorted_pairs ps before)
sorted_then no_pairs qs before = refl
sorted_then (pair k v ps) qs before = sorted_then ps qs (insert_pair before (sorted k) (sorted v))

-- the entries of padding are left out
fill_lost : (o q : Option ℕ) (before : Pairs)
    → without_padding (sorted_pairs (zeros_before (codes "pad") o (zeros_before (codes "pad2") q no_pairs)) before) ≡ without_padding before
fill_lost None None before = refl
fill_lost None (Some n) before = insert_pad before (text (codes "pad2")) _ refl
fill_lost (Some n) None before = insert_pad before (text (codes "pad")) _ refl
fill_lost (Some n) (Some m) before =
    insert_pad (insert_pair before (text (codes "pad")) (bytes (replicate n 0))) (text (codes "pad2")) _ refl
    ∙ insert_pad before (text (codes "pad")) _ refl

-- a map with a fill, read, has its own entries beside those of padding
map_same : (ps : Pairs) (f : Fill) → HasNoText (codes "pad") ps → HasNoText (codes "pad2") ps
    → header_without_padding (sorted (with_entries (dict ps) (fill_pairs f))) ≡ sorted (dict ps)
map_same ps f a b =
    ap (λ qs. dict (without_padding qs)) (sorted_then ps (fill_pairs f) no_pairs)
    ∙ ap dict
    (fill_lost f.pad f.pad2 (sorted_pairs ps no_pairs) ∙ none_lost (sorted_pairs ps no_pairs) (sorted_other ps no_pairs a b tt))

-- each message that can be padded has its own entries beside those of padding
pub padding_alone : (p : SignParts) (ps : Pairs) (f : Fill) → CanBePadded p ps
    → header_without_padding (padded_read p (fill_pairs f)).unprotected ≡ sorted p.unprotected
padding_alone p ps f can =
    subst (λ u. header_without_padding (sorted (with_entries u (fill_pairs f))) ≡ sorted u) (sym can.map)
    (map_same ps f can.no_pad can.no_pad2)
