-- The item of a claim that is made of parts is legal: it is four items deep, the keys of each of its maps differ, and it has no simple value.
use Rattle.std.proofs.Common.{◌≡◌, ◌⊎◌, inl, inr, ℕ, suc, ◌<◌, ◌≤◌, Bool, true, not, ◌&&◌, List, [], ◌∷◌, map, Option, Some, None, refl, sym, ap, ◌∙◌, arith, lit<, codes}
use Rattle.std.proofs.lemmas.Bool.{and_parts, not-true, false≢true}
use Rattle.std.proofs.lemmas.Slice.Eq.{bytes_eq-Decides}
use Rattle.std.specs.Str.{bytes_eq}
use Rattle.c2_spec.specs.Cbor.Deterministic.{deterministic, shortest_head}
use Rattle.c2_spec.specs.Cbor.Item.{Item, bytes, dict, item, list, text, Items, no_items, Pairs, no_pairs, pair}
use Rattle.c2_spec.specs.Cbor.Legal.{HasBadSimple, HasDistinctKeys, IsLegal, IsNew, ItemsHaveBadSimple, ItemsHaveDistinctKeys, PairsHaveBadSimple, PairsHaveDistinctKeys, depth, items_depth, pairs_depth}
use Rattle.c2_spec.specs.Cbor.View.{items_of}
use Rattle.c2_spec.specs.Cbor.Writing.{ref_item}
use Rattle.c2_spec.specs.declared.cbor.Ref.{Ref}
use Rattle.c2_claim.specs.Written.{claim_item, generator_item, signature_uri}
use Rattle.c2_claim.specs.declared.writing.ClaimParts.{ClaimParts}

-- ---- keys that differ

-- no key of ps has the deterministic bytes of k
abbrev is_apart : Item → Pairs → Bool
is_apart k no_pairs = true
is_apart k (pair l v ps) = not (bytes_eq (deterministic k) (deterministic l)) && is_apart k ps

-- items of different bytes differ
differ : (k l : Item) → not (bytes_eq (deterministic k) (deterministic l)) ≡ true → k ≡ l → ⊥
differ k l n e =
    false≢true
    (sym (not-true (bytes_eq (deterministic k) (deterministic l)) n) ∙ (bytes_eq-Decides (deterministic k) (deterministic l)).1 (ap deterministic e))

-- a key whose deterministic bytes are others than those of all keys is new
apart : (k : Item) (ps : Pairs) → is_apart k ps ≡ true → IsNew k ps
apart k no_pairs h = tt
apart k (pair l v ps) h =
    let both = and_parts (not (bytes_eq (deterministic k) (deterministic l))) (is_apart k ps) h in
    (differ k l both.0, apart k ps both.1)

-- ---- items so deep at most

-- an item with this depth at most
record LegalTo (n : ℕ) (v : Item) : Type 0 where
  shallow : depth v ≤ n
  distinct : HasDistinctKeys v
  fine : HasBadSimple v → ⊥

-- items of a list
record LegalItems (n : ℕ) (vs : Items) : Type 0 where
  shallow : items_depth vs ≤ n
  distinct : ItemsHaveDistinctKeys vs
  fine : ItemsHaveBadSimple vs → ⊥

-- pairs of a map
record LegalPairs (n : ℕ) (ps : Pairs) : Type 0 where
  shallow : pairs_depth ps ≤ n
  distinct : PairsHaveDistinctKeys ps
  fine : PairsHaveBadSimple ps → ⊥

text_legal : (n : ℕ) (t : List ℕ) → 0 < n → LegalTo n (text t)
text_legal n t some = record { shallow = omega (arith, some); distinct = tt; fine = λ h. h }

bytes_legal : (n : ℕ) (t : List ℕ) → 0 < n → LegalTo n (bytes t)
bytes_legal n t some = record { shallow = omega (arith, some); distinct = tt; fine = λ h. h }

-- no items
no_legal : (n : ℕ) → LegalItems n no_items
no_legal n = record { shallow = omega arith; distinct = tt; fine = λ h. h }

-- an item before others
item_legal : (n : ℕ) (v : Item) (vs : Items) → LegalTo n v → LegalItems n vs → LegalItems n (item v vs)
item_legal n v vs h rest = record { shallow = omega (arith, h.shallow, rest.shallow); distinct = (h.distinct, rest.distinct); fine = bad }
  where
    bad : HasBadSimple v ⊎ ItemsHaveBadSimple vs → ⊥
    bad (inl b) = h.fine b
    bad (inr b) = rest.fine b

-- a list
list_legal : (n : ℕ) (vs : Items) → LegalItems n vs → LegalTo (suc n) (list vs)
list_legal n vs h = record { shallow = omega (arith, h.shallow); distinct = h.distinct; fine = h.fine }

-- no pairs
none_legal : (n : ℕ) → LegalPairs n no_pairs
none_legal n = record { shallow = omega arith; distinct = tt; fine = λ h. h }

-- a pair with another key before others
one_legal : (n : ℕ) (key : List ℕ) (v : Item) (ps : Pairs) → 0 < n → LegalTo n v → is_apart (text key) ps ≡ true
    → LegalPairs n ps → LegalPairs n (pair (text key) v ps)
one_legal n key v ps some h new rest = record { shallow = omega (arith, some, h.shallow, rest.shallow); distinct = (tt, h.distinct, apart (text key) ps new, rest.distinct); fine = bad }
  where
    bad : ⊥ ⊎ (HasBadSimple v ⊎ PairsHaveBadSimple ps) → ⊥
    bad (inl b) = b
    bad (inr (inl b)) = h.fine b
    bad (inr (inr b)) = rest.fine b

-- a map
dict_legal : (n : ℕ) (ps : Pairs) → LegalPairs n ps → LegalTo (suc n) (dict ps)
dict_legal n ps h = record { shallow = omega (arith, h.shallow); distinct = h.distinct; fine = h.fine }

-- ---- the fields of a claim

-- a reference
ref_legal_of : (u h : List ℕ) (a : Option (List ℕ)) → LegalTo 2 (ref_item (record { url = u; hash = h; alg = a }))
unfolding shortest_head
ref_legal_of u h None =
    let last =
    one_legal 1 (codes "hash") (bytes h) no_pairs (lit< tt) (bytes_legal 1 h (lit< tt)) refl (none_legal 1) in
    dict_legal 1 _
    (one_legal 1 (codes "url") (text u) (pair (text (codes "hash")) (bytes h) no_pairs) (lit< tt) (text_legal 1 u (lit< tt)) refl last)
ref_legal_of u h (Some a) =
    let last =
    one_legal 1 (codes "hash") (bytes h) no_pairs (lit< tt) (bytes_legal 1 h (lit< tt)) refl (none_legal 1) in
    let more =
    one_legal 1 (codes "url") (text u) (pair (text (codes "hash")) (bytes h) no_pairs) (lit< tt)
    (text_legal 1 u (lit< tt)) refl last in
    dict_legal 1 _
    (one_legal 1 (codes "alg") (text a) (pair (text (codes "url")) (text u) (pair (text (codes "hash")) (bytes h) no_pairs)) (lit< tt) (text_legal 1 a (lit< tt)) refl more)

-- references
refs_legal : (rs : List Ref) → LegalItems 2 (items_of (map ref_item rs))
refs_legal [] = no_legal 2
refs_legal (r ∷ rs) =
    item_legal 2 (ref_item r) (items_of (map ref_item rs)) (ref_legal_of r.url r.hash r.alg) (refs_legal rs)

-- texts
texts_legal : (ts : List (List ℕ)) → LegalItems 2 (items_of (map text ts))
texts_legal [] = no_legal 2
texts_legal (t ∷ ts) = item_legal 2 (text t) (items_of (map text ts)) (text_legal 2 t (lit< tt)) (texts_legal ts)

-- the program that makes the claim
generator_legal : (name : List ℕ) → LegalTo 3 (generator_item name)
generator_legal name =
    dict_legal 2 _
    (one_legal 2 (codes "name") (text name) no_pairs (lit< tt) (text_legal 2 name (lit< tt)) refl (none_legal 2))

-- ---- a claim

-- the last field of a claim
abbrev last_field : List ℕ → Pairs
last_field generator = pair (text (codes "claim_generator_info")) (generator_item generator) no_pairs

last_legal : (generator : List ℕ) → LegalPairs 3 (last_field generator)
last_legal generator =
    one_legal 3 (codes "claim_generator_info") (generator_item generator) no_pairs (lit< tt) (generator_legal generator)
    refl (none_legal 3)

-- the redactions before it, where there are some
abbrev redactions_then : List (List ℕ) → Pairs → Pairs
redactions_then [] ps = ps
redactions_then (t ∷ ts) ps = pair (text (codes "redacted_assertions")) (list (items_of (map text (t ∷ ts)))) ps

-- the fields from the signature on
abbrev later_fields : List ℕ → List ℕ → List Ref → Pairs → Pairs
later_fields signature instance entries ps =
    pair (text (codes "signature")) (text signature)
    (pair (text (codes "instanceID")) (text instance) (pair (text (codes "created_assertions")) (list (items_of (map ref_item entries))) ps))

-- the fields of a claim from the redactions on are legal
redactions_legal : (redacted : List (List ℕ)) (generator : List ℕ)
    → LegalPairs 3 (redactions_then redacted (last_field generator))
unfolding shortest_head
redactions_legal [] generator = last_legal generator
redactions_legal (t ∷ ts) generator =
    one_legal 3 (codes "redacted_assertions") (list (items_of (map text (t ∷ ts)))) (last_field generator) (lit< tt)
    (list_legal 2 _ (texts_legal (t ∷ ts))) refl (last_legal generator)

-- the fields of a claim from the signature on are legal
later_legal : (signature instance : List ℕ) (entries : List Ref) (redacted : List (List ℕ)) (generator : List ℕ)
    → LegalPairs 3 (later_fields signature instance entries (redactions_then redacted (last_field generator)))
unfolding shortest_head
later_legal signature instance entries [] generator =
    one_legal 3 (codes "signature") (text signature) _ (lit< tt) (text_legal 3 signature (lit< tt)) refl
    (one_legal 3 (codes "instanceID") (text instance) _ (lit< tt) (text_legal 3 instance (lit< tt)) refl
    (one_legal 3 (codes "created_assertions") (list (items_of (map ref_item entries))) _ (lit< tt) (list_legal 2 _ (refs_legal entries)) refl (redactions_legal [] generator)))
later_legal signature instance entries (t ∷ ts) generator =
    one_legal 3 (codes "signature") (text signature) _ (lit< tt) (text_legal 3 signature (lit< tt)) refl
    (one_legal 3 (codes "instanceID") (text instance) _ (lit< tt) (text_legal 3 instance (lit< tt)) refl
    (one_legal 3 (codes "created_assertions") (list (items_of (map ref_item entries))) _ (lit< tt) (list_legal 2 _ (refs_legal entries)) refl (redactions_legal (t ∷ ts) generator)))

-- all of them
claim_legal_of : (label instance generator : List ℕ) (title : Option (List ℕ)) (alg : List ℕ) (entries : List Ref) (redacted : List (List ℕ))
    → LegalTo 4 (claim_item (record { label = label; instance = instance; generator = generator; title = title; alg = alg; entries = entries; redacted = redacted }))
unfolding shortest_head
claim_legal_of label instance generator None alg entries [] =
    dict_legal 3 _
    (one_legal 3 (codes "alg") (text alg) (later_fields (signature_uri label) instance entries (last_field generator)) (lit< tt) (text_legal 3 alg (lit< tt)) refl (later_legal (signature_uri label) instance entries [] generator))
claim_legal_of label instance generator None alg entries (t ∷ ts) =
    dict_legal 3 _
    (one_legal 3 (codes "alg") (text alg) (later_fields (signature_uri label) instance entries (redactions_then (t ∷ ts) (last_field generator))) (lit< tt) (text_legal 3 alg (lit< tt)) refl (later_legal (signature_uri label) instance entries (t ∷ ts) generator))
claim_legal_of label instance generator (Some title) alg entries [] =
    dict_legal 3 _ (one_legal 3 (codes "alg") (text alg) _ (lit< tt) (text_legal 3 alg (lit< tt)) refl
    (one_legal 3 (codes "dc:title") (text title) (later_fields (signature_uri label) instance entries (last_field generator)) (lit< tt) (text_legal 3 title (lit< tt)) refl (later_legal (signature_uri label) instance entries [] generator)))
claim_legal_of label instance generator (Some title) alg entries (t ∷ ts) =
    dict_legal 3 _ (one_legal 3 (codes "alg") (text alg) _ (lit< tt) (text_legal 3 alg (lit< tt)) refl
    (one_legal 3 (codes "dc:title") (text title) (later_fields (signature_uri label) instance entries (redactions_then (t ∷ ts) (last_field generator))) (lit< tt) (text_legal 3 title (lit< tt)) refl (later_legal (signature_uri label) instance entries (t ∷ ts) generator)))

-- a claim of parts is legal
pub claim_legal : (p : ClaimParts) → IsLegal (claim_item p)
claim_legal p =
    let h = claim_legal_of p.label p.instance p.generator p.title p.alg p.entries p.redacted in
    record { shallow = omega (arith, h.shallow); distinct = h.distinct; no_bad_simple = h.fine }
