-- The lengths of the preferred bytes of an item and of its parts, and their sums.
use Rattle.std.proofs.Common.{◌≡◌, ℕ, ◌+◌, ◌^◌, ◌<◌, List, length, Option, Some, None, Vec, vec_len, Box, sym, ap, subst, ◌∙◌, arith}
use Rattle.std.specs.Option.{SomeIff}
use Rattle.std.specs.declared.alloc.Global.{Global}
use Rattle.std.proofs.lemmas.List.{length-append}
use Rattle.c2_spec.specs.Cbor.View.{view, items_view, pairs_view}
use Rattle.c2_spec.specs.Cbor.Deterministic.{shortest_head, preferred, preferred_items, preferred_pairs}
use Rattle.c2_spec.specs.declared.cbor.Cbor.{Cbor, List as List', Bytes, Text, Map, Tag}
use Rattle.c2_cbor_spec.proofs.Views.{preferred-List, preferred-Map, preferred-Tag}
use Rattle.c2_cbor_spec.proofs.Views.{view-text}
use Rattle.c2_spec.proofs.CborViews.{view-Bytes}

-- ---- sums that a number holds

-- the same sum
pub sum_as : (r : Option ℕ) (t a c : ℕ) → c ≡ a → SomeIff r (t + a < 2 ^ 64) (t + a) → SomeIff r (t + c < 2 ^ 64) (t + c)
sum_as r t a c e h = subst (λ x. SomeIff r (t + x < 2 ^ 64) (t + x)) (sym e) h

-- a sum that goes on after a part is the sum from before that part
pub sum_on : (r : Option ℕ) (t h s a c : ℕ) → (t + h < 2 ^ 64) × (s ≡ t + h) → SomeIff r (s + a < 2 ^ 64) (s + a)
    → c ≡ h + a → SomeIff r (t + c < 2 ^ 64) (t + c)
sum_on None t h s a c p q e = λ lt. q (omega (arith, p.1, e, lt))
sum_on (Some x) t h s a c p q e = (omega (arith, q.0, p.1, e), omega (arith, q.1, p.1, e))

-- a sum that overflows at a part is too great from before it
pub sum_off : (r : Option ℕ) (t h a c : ℕ) → r ≡ None → (t + h < 2 ^ 64 → ⊥) → c ≡ h + a
    → SomeIff r (t + c < 2 ^ 64) (t + c)
sum_off r t h a c e q f = subst (λ o. SomeIff o (t + c < 2 ^ 64) (t + c)) (sym e) (λ lt. q (omega (arith, f, lt)))

-- a sum whose last part is added is the whole
pub sum_done : (start total a b : ℕ) → total < 2 ^ 64 → a ≡ 0 → total + a ≡ start + b
    → SomeIff (Some total) (start + b < 2 ^ 64) (start + b)
sum_done start total a b lt e f = (omega (arith, lt, e, f), omega (arith, e, f))

-- a sum from nothing on is the sum of its parts
pub from_none : (r : Option ℕ) (a d : ℕ) → SomeIff r (0 + a < 2 ^ 64) (0 + a) → d ≡ a → SomeIff r (d < 2 ^ 64) d
from_none None a d h e = λ lt. h (omega (arith, lt, e))
from_none (Some x) a d h e = (omega (arith, h.0, e), omega (arith, h.1, e))

-- ---- an item and its parts

-- a byte string is as long as its head and its bytes
pub length-Bytes : (w : Cbor) (b : List ℕ) (s : List ℕ) (h : ℕ) → w ≡ Bytes b → s ≡ b
    → h ≡ length (shortest_head 2 (length s)) → length (preferred (view w)) ≡ h + length s
length-Bytes w b s h is e f =
    ap (λ v. length (preferred (view v))) is ∙ ap (λ v. length (preferred v)) (view-Bytes b)
    ∙ length-append (shortest_head 2 (length b)) b
    ∙ ap (λ u. length (shortest_head 2 (length u)) + length u) (sym e) ∙ ap (λ k. k + length s) (sym f)

-- a text is as long as its head and its bytes
pub length-Text : (w : Cbor) (b : List ℕ) (s : List ℕ) (h : ℕ) → w ≡ Text b → s ≡ b
    → h ≡ length (shortest_head 3 (length s)) → length (preferred (view w)) ≡ h + length s
length-Text w b s h is e f =
    ap (λ v. length (preferred (view v))) is ∙ ap (λ v. length (preferred v)) (view-text b)
    ∙ length-append (shortest_head 3 (length b)) b
    ∙ ap (λ u. length (shortest_head 3 (length u)) + length u) (sym e) ∙ ap (λ k. k + length s) (sym f)

-- a list is as long as its head and its items
pub length-List : (w : Cbor) (v : Vec Cbor Global) (n h : ℕ) (vs : List Cbor) → w ≡ List' v → n ≡ vec_len v
    → vs ≡ v.items → h ≡ length (shortest_head 4 n)
    → length (preferred (view w)) ≡ h + length (preferred_items (items_view vs))
length-List w v n h vs is e d f =
    ap (λ u. length (preferred (view u))) is ∙ ap length (preferred-List v n vs e d)
    ∙ length-append (shortest_head 4 n) (preferred_items (items_view vs))
    ∙ ap (λ k. k + length (preferred_items (items_view vs))) (sym f)

-- a map is as long as its head and its pairs
pub length-Map : (w : Cbor) (v : Vec (Cbor × Cbor) Global) (n h : ℕ) (ps : List (Cbor × Cbor)) → w ≡ Map v
    → n ≡ vec_len v → ps ≡ v.items → h ≡ length (shortest_head 5 n)
    → length (preferred (view w)) ≡ h + length (preferred_pairs (pairs_view ps))
length-Map w v n h ps is e d f =
    ap (λ u. length (preferred (view u))) is ∙ ap length (preferred-Map v n ps e d)
    ∙ length-append (shortest_head 5 n) (preferred_pairs (pairs_view ps))
    ∙ ap (λ k. k + length (preferred_pairs (pairs_view ps))) (sym f)

-- a tagged item is as long as its head and the item
pub length-Tag : (w : Cbor) (n h : ℕ) (v : Box Cbor Global) (u : Cbor) → w ≡ Tag n v → u ≡ v.value
    → h ≡ length (shortest_head 6 n) → length (preferred (view w)) ≡ h + length (preferred (view u))
length-Tag w n h v u is e f =
    ap (λ x. length (preferred (view x))) is ∙ ap length (preferred-Tag n v u e)
    ∙ length-append (shortest_head 6 n) (preferred (view u)) ∙ ap (λ k. k + length (preferred (view u))) (sym f)
