-- An item, level by level.
use Rattle.std.proofs.Common.{◌≡◌, ℕ, suc, List, [], ◌∷◌, ◌++◌, length, refl, ap, ◌∙◌, sym, rules, arith, Vec, vec_len, Box, cond, ◌≤◌, ◌+◌, append_assoc, subst, ◌<◌, ◌^◌}
use Rattle.std.proofs.lemmas.Bool.{le-ltb}
use Rattle.std.specs.declared.alloc.Global.{Global}
use Rattle.c2_spec.specs.Cbor.Item.{text, dict, tag}
use Rattle.c2_cbor_spec.specs.Fine.{Fine, FineItems, FinePairs}
use Rattle.std.specs.Str.{IsUtf8, is_utf8}
use Rattle.std.proofs.lemmas.Str.{is_utf8-from_IsUtf8}
use Rattle.c2_spec.specs.Cbor.Legal.{depth, pairs_depth}
use Rattle.c2_spec.specs.Cbor.View.{view, items_view, pairs_view}
use Rattle.c2_spec.specs.Cbor.Deterministic.{shortest_head, simple_bytes, preferred, preferred_items, preferred_pairs}
use Rattle.c2_spec.specs.Cbor.Item.{items_len, pairs_len}
use Rattle.std.specs.Int.{w16, w32, w64, to_be_bytes}
use Rattle.c2_spec.proofs.CborViews.{view-List}
use Rattle.c2_spec.specs.declared.cbor.Cbor.{Cbor, List as List', Text, Map, Tag, Simple, Half, Single, Double, the_lemmas}

-- a map as an item is its pairs
pub view-Map : (v : Vec (Cbor × Cbor) Global) → view (Map v) ≡ dict (pairs_view v.items)
view-Map v = search (rules, the_lemmas)

-- a tagged value as an item is the tagged item
pub view-Tag : (n : ℕ) (v : Box Cbor Global) → view (Tag n v) ≡ tag n (view v.value)
view-Tag n v = search (rules, the_lemmas)

-- a list of values has as many items
pub items_len-view : (vs : List Cbor) → items_len (items_view vs) ≡ length vs
items_len-view [] = refl
items_len-view (v ∷ vs) = ap suc (items_len-view vs)

-- a list of pairs has as many pairs
pub pairs_len-view : (ps : List (Cbor × Cbor)) → pairs_len (pairs_view ps) ≡ length ps
pairs_len-view [] = refl
pairs_len-view (p ∷ ps) = ap suc (pairs_len-view ps)

-- the preferred bytes of a list are its head and its items' bytes
pub preferred-List : (v : Vec Cbor Global) (n : ℕ) (vs : List Cbor) → n ≡ vec_len v → vs ≡ v.items
    → preferred (view (List' v)) ≡ shortest_head 4 n ++ preferred_items (items_view vs)
preferred-List v n vs e d =
    let len : length v.items ≡ n = omega (arith, v.ok.0) in
    ap preferred (view-List v)
    ∙ ap (λ k. shortest_head 4 k ++ preferred_items (items_view v.items)) (items_len-view v.items ∙ len)
    ∙ ap (λ ws. shortest_head 4 n ++ preferred_items (items_view ws)) (sym d)

-- the preferred bytes of a map are its head and its pairs' bytes
pub preferred-Map : (v : Vec (Cbor × Cbor) Global) (n : ℕ) (ps : List (Cbor × Cbor)) → n ≡ vec_len v → ps ≡ v.items
    → preferred (view (Map v)) ≡ shortest_head 5 n ++ preferred_pairs (pairs_view ps)
preferred-Map v n ps e d =
    let len : length v.items ≡ n = omega (arith, v.ok.0) in
    ap preferred (view-Map v)
    ∙ ap (λ k. shortest_head 5 k ++ preferred_pairs (pairs_view v.items)) (pairs_len-view v.items ∙ len)
    ∙ ap (λ ws. shortest_head 5 n ++ preferred_pairs (pairs_view ws)) (sym d)

-- what was written is one head and what follows it
pub append_parts : (old head rest first second whole : List ℕ) → first ≡ old ++ head → second ≡ first ++ rest
    → whole ≡ head ++ rest → second ≡ old ++ whole
append_parts old head rest first second whole p q r =
    q ∙ ap (λ x. x ++ rest) p ∙ append_assoc old head rest ∙ ap (λ x. old ++ x) (sym r)

-- the preferred bytes of a tagged item are its head and the item's bytes
pub preferred-Tag : (n : ℕ) (v : Box Cbor Global) (w : Cbor) → w ≡ v.value
    → preferred (view (Tag n v)) ≡ shortest_head 6 n ++ preferred (view w)
preferred-Tag n v w e = ap preferred (view-Tag n v) ∙ ap (λ x. shortest_head 6 n ++ preferred (view x)) (sym e)

-- the bytes of a half float are 249 and its two bytes
view-Half : (n : ℕ) → preferred (view (Half n)) ≡ 249 ∷ to_be_bytes w16 n
view-Half n = search (rules, the_lemmas)

-- the same, as one byte and the others
pub preferred-Half : (n : ℕ) (s : List ℕ) → s ≡ to_be_bytes w16 n → preferred (view (Half n)) ≡ (249 ∷ []) ++ s
preferred-Half n s e = view-Half n ∙ ap (λ x. 249 ∷ x) (sym e)

-- the bytes of a single float are 250 and its four bytes
view-Single : (n : ℕ) → preferred (view (Single n)) ≡ 250 ∷ to_be_bytes w32 n
view-Single n = search (rules, the_lemmas)

-- the same, as one byte and the others
pub preferred-Single : (n : ℕ) (s : List ℕ) → s ≡ to_be_bytes w32 n → preferred (view (Single n)) ≡ (250 ∷ []) ++ s
preferred-Single n s e = view-Single n ∙ ap (λ x. 250 ∷ x) (sym e)

-- the bytes of a double float are 251 and its eight bytes
view-Double : (n : ℕ) → preferred (view (Double n)) ≡ 251 ∷ to_be_bytes w64 n
view-Double n = search (rules, the_lemmas)

-- the same, as one byte and the others
pub preferred-Double : (n : ℕ) (s : List ℕ) → s ≡ to_be_bytes w64 n → preferred (view (Double n)) ≡ (251 ∷ []) ++ s
preferred-Double n s e = view-Double n ∙ ap (λ x. 251 ∷ x) (sym e)

-- the bytes of a simple value are those of its number
pub preferred-Simple : (n : ℕ) → preferred (view (Simple n)) ≡ simple_bytes n
preferred-Simple n = search (rules, the_lemmas)

-- from 24 on they are 248 and the number
pub preferred-Simple-long : (n : ℕ) → 24 ≤ n → preferred (view (Simple n)) ≡ (248 ∷ []) ++ n ∷ []
preferred-Simple-long n h = preferred-Simple n ∙ ap (λ b. cond b ((224 + n) ∷ []) (248 ∷ n ∷ [])) (le-ltb n 24 h)

-- a text as an item is its bytes
pub view-text : (t : List ℕ) → view (Text t) ≡ text t
view-text t = search (rules, the_lemmas)

-- a map is one level deeper than its keys and values
pub depth-Map : (v : Vec (Cbor × Cbor) Global) (ps : List (Cbor × Cbor)) → ps ≡ v.items
    → depth (view (Map v)) ≡ suc (pairs_depth (pairs_view ps))
depth-Map v ps e = ap depth (view-Map v) ∙ ap (λ x. suc (pairs_depth (pairs_view x))) (sym e)

-- a text of UTF-8 below 2^64 bytes has a spelling
pub fine-Text : (v : Cbor) (t s : List ℕ) → v ≡ Text t → s ≡ t → IsUtf8 s → length s < 2 ^ 64 → Fine (view v)
fine-Text v t s e same utf8 lt =
    subst Fine (sym (ap view e ∙ view-text t))
    (omega (arith, ap length same), ap is_utf8 (sym same) ∙ is_utf8-from_IsUtf8 s utf8)

-- a list of fewer than 2^64 items that have spellings has one
pub fine-List : (v : Cbor) (w : Vec Cbor Global) (vs : List Cbor) → v ≡ List' w → vs ≡ w.items → vec_len w < 2 ^ 64
    → FineItems (items_view vs) → Fine (view v)
fine-List v w vs e same lt f =
    subst Fine (sym (ap view e ∙ view-List w))
    (omega (arith, items_len-view w.items, w.ok.0), subst (λ ws. FineItems (items_view ws)) same f)

-- a map of fewer than 2^64 pairs that have spellings has one
pub fine-Map : (v : Cbor) (w : Vec (Cbor × Cbor) Global) (ps : List (Cbor × Cbor)) → v ≡ Map w → ps ≡ w.items
    → vec_len w < 2 ^ 64 → FinePairs (pairs_view ps) → Fine (view v)
fine-Map v w ps e same lt f =
    subst Fine (sym (ap view e ∙ view-Map w))
    (omega (arith, pairs_len-view w.items, w.ok.0), subst (λ ws. FinePairs (pairs_view ws)) same f)
