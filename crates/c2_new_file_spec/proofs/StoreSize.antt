-- How long written boxes are; and that a new store's length depends neither on its range nor on digests.
use Rattle.c2_cbor_spec.proofs.TheLaws.{sorting_keeps_the_length}
use Rattle.std.proofs.Common.{◌≡◌, ℕ, suc, ◌+◌, List, [], ◌∷◌, ◌++◌, length, map, Option, Some, None, refl, sym, ap, ◌∙◌, arith, codes, length-append}
use Rattle.std.specs.Prelude.{⊤}
use Rattle.c2_spec.specs.declared.digest.Alg.{Alg}
use Rattle.c2_spec.specs.C2pa.Uri.{PlainTarget, whole, signature, assertion, uri_text}
use Rattle.c2_spec.specs.Cbor.Deterministic.{shortest_head, preferred, preferred_items, preferred_pairs, deterministic}
use Rattle.c2_spec.specs.Cbor.Item.{Item, bytes, text, list, dict, Items, items_len, Pairs, pair, pairs_len}
use Rattle.c2_spec.specs.Cbor.View.{items_of, pairs_of}
use Rattle.c2_spec.specs.Cbor.Writing.{field, field_if, ref_item}
use Rattle.c2_spec.specs.Jumbf.Tree.{Tree, Trees, none, more, tree_bytes, trees_bytes}
use Rattle.c2_spec.specs.declared.cbor.Ref.{Ref}
use Rattle.c2_assertion.specs.Written.{ingredient_item, relationship_word}
use Rattle.c2_claim.specs.Written.{claim_item, redactions_field, generator_item, signature_uri}
use Rattle.c2_claim.specs.declared.writing.ClaimParts.{ClaimParts}
use Rattle.c2_definition.specs.declared.types.NewAssertion.{NewAssertion}
use Rattle.c2_definition.specs.declared.types.Payload.{Payload}
use Rattle.c2_definition.specs.declared.types.Payload.TheVariants as payload
use Rattle.c2_new_file_spec.specs.Built.{HasDigestLen}
use Rattle.c2_new_file_spec.specs.FreshBoxes.{fresh_leaf, fresh_box, item_box, store_box, trees_then}
use Rattle.c2_new_file_spec.specs.Store.{Content, NewIngredient, assertion_box, assertion_boxes, entry_of, ingredient_assertion, written_ingredient, target_ref, new_assertions, claim_parts, new_claim, manifest_box, new_manifest, new_store, new_alg}
use Rattle.c2_new_file_spec.proofs.BoxLemmas.{fresh_len, then_len}

-- ---- items of one size

-- two items are as long as each other
abbrev SameLen : Item → Item → Type 0
SameLen v w = length (preferred v) ≡ length (preferred w)

-- two lists of pairs are as long as each other, and as many
record SamePairs (ps qs : Pairs) : Type 0 where
  bytes_are : length (preferred_pairs ps) ≡ length (preferred_pairs qs)
  count_is : pairs_len ps ≡ pairs_len qs

-- pairs of one size stay so with one key in front of both, whose values are as long as each other
same_pair : (k v w : Item) (ps qs : Pairs) → SameLen v w → SamePairs ps qs → SamePairs (pair k v ps) (pair k w qs)
same_pair k v w ps qs e f = record {
  bytes_are =
      omega
      (arith, e, f.bytes_are, length-append (preferred k) (preferred v), length-append (preferred k) (preferred w), length-append (preferred k ++ preferred v) (preferred_pairs ps), length-append (preferred k ++ preferred w) (preferred_pairs qs));
  count_is = ap suc f.count_is;
}

-- pairs of one size stay so with the same pairs before both
same_behind : (xs ps qs : List (Item × Item)) → SamePairs (pairs_of ps) (pairs_of qs)
    → SamePairs (pairs_of (xs ++ ps)) (pairs_of (xs ++ qs))
same_behind [] ps qs h = h
same_behind (x ∷ xs) ps qs h =
    same_pair x.0 x.1 x.1 (pairs_of (xs ++ ps)) (pairs_of (xs ++ qs)) refl (same_behind xs ps qs h)

-- equal pairs are of one size
same_all : (ps : Pairs) → SamePairs ps ps
same_all ps = record { bytes_are = refl; count_is = refl }

-- maps of as many pairs of one length have one length
same_dict : (ps qs : Pairs) → SamePairs ps qs → SameLen (dict ps) (dict qs)
same_dict ps qs f =
    length-append (shortest_head 5 (pairs_len ps)) (preferred_pairs ps)
    ∙ ap (λ n. length (shortest_head 5 n) + length (preferred_pairs ps)) f.count_is
    ∙ ap (λ n. length (shortest_head 5 (pairs_len qs)) + n) f.bytes_are
    ∙ sym (length-append (shortest_head 5 (pairs_len qs)) (preferred_pairs qs))

-- byte strings of one length have items of one length
same_bytes : (a b : List ℕ) → length a ≡ length b → SameLen (bytes a) (bytes b)
same_bytes a b e =
    length-append (shortest_head 2 (length a)) a ∙ ap (λ n. length (shortest_head 2 n) + n) e
    ∙ sym (length-append (shortest_head 2 (length b)) b)

-- ---- references

-- to the same boxes, with digests of one length
record SameRef (r s : Ref) : Type 0 where
  url : r.url ≡ s.url
  alg : r.alg ≡ s.alg
  hash : length r.hash ≡ length s.hash

-- references to the same boxes, with digests of one length, have items of one length
same_ref : (r s : Ref) → SameRef r s → SameLen (ref_item r) (ref_item s)
same_ref r s e =
    ap (λ (u : List ℕ). length (preferred (ref_item (record { url = u; hash = r.hash; alg = r.alg })))) e.url
    ∙ ap (λ (a : Option (List ℕ)). length (preferred (ref_item (record { url = s.url; hash = r.hash; alg = a }))))
    e.alg
    ∙ same_dict _ _ (same_behind (field_if (codes "alg") text s.alg) (field (codes "url") (text s.url) ∷ field (codes "hash") (bytes r.hash) ∷ []) (field (codes "url") (text s.url) ∷ field (codes "hash") (bytes s.hash) ∷ [])
    (same_pair (text (codes "url")) (text s.url) (text s.url) _ _ refl (same_pair (text (codes "hash")) (bytes r.hash) (bytes s.hash) _ _ (same_bytes r.hash s.hash e.hash) (same_all _))))

-- two lists of as many references are such, one by one
SameRefs : List Ref → List Ref → Type 0
SameRefs [] [] = ⊤
SameRefs [] (s ∷ ss) = ⊥
SameRefs (r ∷ rs) [] = ⊥
SameRefs (r ∷ rs) (s ∷ ss) = SameRef r s × SameRefs rs ss

-- the items of references
abbrev refs_of : List Ref → Items
refs_of rs = items_of (map ref_item rs)

-- the items of two such lists are as long together, and as many
same_refs : (rs ss : List Ref) → SameRefs rs ss
    → (length (preferred_items (refs_of rs)) ≡ length (preferred_items (refs_of ss))) × (items_len (refs_of rs) ≡ items_len (refs_of ss))
unfolding SameRefs
same_refs [] [] h = (refl, refl)
same_refs [] (s ∷ ss) h = absurd h
same_refs (r ∷ rs) [] h = absurd h
same_refs (r ∷ rs) (s ∷ ss) h =
    let others = same_refs rs ss h.1 in (
      omega (arith, others.0, same_ref r s h.0, length-append (preferred (ref_item r)) (preferred_items (refs_of rs)), length-append (preferred (ref_item s)) (preferred_items (refs_of ss))),
      ap suc others.1,
    )

-- the lists of their items are as long as each other
same_list : (rs ss : List Ref) → SameRefs rs ss → SameLen (list (refs_of rs)) (list (refs_of ss))
same_list rs ss h =
    let e = same_refs rs ss h in
    length-append (shortest_head 4 (items_len (refs_of rs))) (preferred_items (refs_of rs))
    ∙ ap (λ n. length (shortest_head 4 n) + length (preferred_items (refs_of rs))) e.1
    ∙ ap (λ n. length (shortest_head 4 (items_len (refs_of ss))) + n) e.0
    ∙ sym (length-append (shortest_head 4 (items_len (refs_of ss))) (preferred_items (refs_of ss)))

-- ---- claims

-- a claim with other entries
abbrev over : ClaimParts → List Ref → ClaimParts
over c rs =
    record
    { label = c.label; instance = c.instance; generator = c.generator; title = c.title; alg = c.alg; entries = rs; redacted = c.redacted }

-- the fields behind the entries
abbrev behind_entries : ClaimParts → List (Item × Item)
behind_entries c = redactions_field c.redacted ++ field (codes "claim_generator_info") (generator_item c.generator) ∷ []

-- the fields of a claim from the signature on
abbrev from_signature : ClaimParts → List Ref → List (Item × Item)
from_signature c rs =
    field (codes "signature") (text (signature_uri c.label)) ∷ field (codes "instanceID") (text c.instance) ∷ field
    (codes "created_assertions") (list (refs_of rs)) ∷ behind_entries c

-- the fields of a claim
fields_over : ClaimParts → List Ref → List (Item × Item)
fields_over c rs = field (codes "alg") (text c.alg) ∷ (field_if (codes "dc:title") text c.title ++ from_signature c rs)

-- a claim of these parts
abbrev parts_of : List ℕ → List ℕ → List ℕ → Option (List ℕ) → List ℕ → List (List ℕ) → List Ref → ClaimParts
parts_of label instance generator title alg redacted rs =
    record
    { label = label; instance = instance; generator = generator; title = title; alg = alg; entries = rs; redacted = redacted }

-- the item of a claim of these parts is the map of its fields, the entries among them
fields_are : (label instance generator : List ℕ) (title : Option (List ℕ)) (alg : List ℕ) (redacted : List (List ℕ)) (rs : List Ref)
    → claim_item (parts_of label instance generator title alg redacted rs) ≡ dict (pairs_of (fields_over (parts_of label instance generator title alg redacted rs) rs))
unfolding fields_over
fields_are label instance generator None alg [] rs = refl
fields_are label instance generator None alg (t ∷ ts) rs = refl
fields_are label instance generator (Some title) alg [] rs = refl
fields_are label instance generator (Some title) alg (t ∷ ts) rs = refl

-- the item of a claim with other entries is the map of its fields with those
over_is : (c : ClaimParts) (rs : List Ref) → claim_item (over c rs) ≡ dict (pairs_of (fields_over c rs))
unfolding fields_over
over_is c rs = fields_are c.label c.instance c.generator c.title c.alg c.redacted rs

-- the fields of a claim with either of two such lists of references are as long and as many
claims_same : (c : ClaimParts) (rs ss : List Ref) → SameRefs rs ss
    → SamePairs (pairs_of (fields_over c rs)) (pairs_of (fields_over c ss))
unfolding fields_over
claims_same c rs ss h =
    same_pair (text (codes "alg")) (text c.alg) (text c.alg) _ _ refl (same_behind (field_if (codes "dc:title") text c.title) (from_signature c rs) (from_signature c ss)
    (same_pair (text (codes "signature")) (text (signature_uri c.label)) (text (signature_uri c.label)) _ _ refl
    (same_pair (text (codes "instanceID")) (text c.instance) (text c.instance) _ _ refl
    (same_pair (text (codes "created_assertions")) (list (refs_of rs)) (list (refs_of ss)) (pairs_of (behind_entries c)) (pairs_of (behind_entries c)) (same_list rs ss h) (same_all (pairs_of (behind_entries c)))))))

-- the bytes of a claim are as many with either of two such lists of references
claim_len : (c : ClaimParts) (rs ss : List Ref) → SameRefs rs ss
    → length (deterministic (claim_item (over c rs))) ≡ length (deterministic (claim_item (over c ss)))
claim_len c rs ss h =
    sorting_keeps_the_length (claim_item (over c rs)) ∙ ap (λ v. length (preferred v)) (over_is c rs)
    ∙ same_dict (pairs_of (fields_over c rs)) (pairs_of (fields_over c ss)) (claims_same c rs ss h)
    ∙ ap (λ v. length (preferred v)) (sym (over_is c ss)) ∙ sym (sorting_keeps_the_length (claim_item (over c ss)))

-- ---- assertions

-- two assertions have one label and one size
record SameAssertion (a b : NewAssertion) : Type 0 where
  label : a.label ≡ b.label
  size : length a.bytes ≡ length b.bytes

-- a superbox with one content box
pub one_box_len : (name label kind body : List ℕ) → length name ≡ 4
    → length (tree_bytes (fresh_box name label (more (fresh_leaf kind body) none))) ≡ 42 + length label + length body
one_box_len name label kind body n =
    omega
    (arith, fresh_len name label (more (fresh_leaf kind body) none) n, length-append (tree_bytes (fresh_leaf kind body)) [])

-- the box of an assertion
pub assertion_len : (a : NewAssertion) → length (tree_bytes (assertion_box a)) ≡ 42 + length a.label + length a.bytes
assertion_len a = go a.kind a.label a.bytes
  where
    go : (k : Payload) (label body : List ℕ)
        → length (tree_bytes (assertion_box (record { label = label; kind = k; bytes = body }))) ≡ 42 + length label + length body
    go payload.Cbor label body = one_box_len (codes "cbor") label (codes "cbor") body refl
    go payload.Json label body = one_box_len (codes "json") label (codes "json") body refl

-- two lists of as many assertions are such, one by one
SameAssertions : List NewAssertion → List NewAssertion → Type 0
SameAssertions [] [] = ⊤
SameAssertions [] (b ∷ bs) = ⊥
SameAssertions (a ∷ as_) [] = ⊥
SameAssertions (a ∷ as_) (b ∷ bs) = SameAssertion a b × SameAssertions as_ bs

-- the boxes of two such lists of assertions take as many bytes
boxes_len : (as_ bs : List NewAssertion) → SameAssertions as_ bs
    → length (trees_bytes (assertion_boxes as_)) ≡ length (trees_bytes (assertion_boxes bs))
unfolding SameAssertions
boxes_len [] [] h = refl
boxes_len [] (b ∷ bs) h = absurd h
boxes_len (a ∷ as_) [] h = absurd h
boxes_len (a ∷ as_) (b ∷ bs) h =
    let l : length a.label ≡ length b.label = ap length h.0.label in
    omega
    (arith, boxes_len as_ bs h.1, assertion_len a, assertion_len b, l, h.0.size, length-append (tree_bytes (assertion_box a)) (trees_bytes (assertion_boxes as_)), length-append (tree_bytes (assertion_box b)) (trees_bytes (assertion_boxes bs)))

-- two hashes give digests of one length
same_digests : (alg : Alg) (f g : List ℕ → List ℕ) → HasDigestLen alg f → HasDigestLen alg g → (s t : List ℕ)
    → length (f s) ≡ length (g t)
same_digests alg f g hf hg s t = hf s ∙ sym (hg t)

-- the references to such assertions are such, whichever hash gives the digests
same_entries : (alg : Alg) (f g : List ℕ → List ℕ) (as_ bs : List NewAssertion) → HasDigestLen alg f
    → HasDigestLen alg g → SameAssertions as_ bs → SameRefs (map (entry_of f) as_) (map (entry_of g) bs)
unfolding SameAssertions SameRefs
same_entries alg f g [] [] hf hg h = tt
same_entries alg f g [] (b ∷ bs) hf hg h = absurd h
same_entries alg f g (a ∷ as_) [] hf hg h = absurd h
same_entries alg f g (a ∷ as_) (b ∷ bs) hf hg h = (
  record { url = ap (λ (l : List ℕ). uri_text (record { manifest = None; target = assertion l })) h.0.label; alg = refl; hash = same_digests alg f g hf hg _ _ },
  same_entries alg f g as_ bs hf hg h.1,
)

-- a reference into a manifest has one length, whichever hash gives its digest
same_by : (alg : Alg) (f g : List ℕ → List ℕ) → HasDigestLen alg f → HasDigestLen alg g
    → (label : List ℕ) (target : PlainTarget) (contents : List ℕ)
    → SameLen (ref_item (target_ref f label target contents)) (ref_item (target_ref g label target contents))
same_by alg f g hf hg label target contents =
    same_ref (target_ref f label target contents) (target_ref g label target contents)
    (record { url = refl; alg = refl; hash = same_digests alg f g hf hg contents contents })

-- the fields of an ingredient
fields_of : (List ℕ → List ℕ) → NewIngredient → List (Item × Item)
fields_of f i =
    field (codes "relationship") (text (relationship_word i.relationship))
    ∷ field (codes "activeManifest") (ref_item (target_ref f i.of.label whole i.of.contents))
    ∷ field (codes "claimSignature") (ref_item (target_ref f i.of.label signature i.of.signed)) ∷ []

-- the item of an ingredient is the map of these fields
ingredient_is : (f : List ℕ → List ℕ) (i : NewIngredient)
    → ingredient_item (written_ingredient f i) ≡ dict (pairs_of (fields_of f i))
unfolding fields_of
ingredient_is f i = refl

-- these fields are as long and as many, whichever hash gives the digests
ingredients_same : (alg : Alg) (f g : List ℕ → List ℕ) (i : NewIngredient) → HasDigestLen alg f → HasDigestLen alg g
    → SamePairs (pairs_of (fields_of f i)) (pairs_of (fields_of g i))
unfolding fields_of
ingredients_same alg f g i hf hg =
    let word : Item = text (relationship_word i.relationship) in
    same_pair (text (codes "relationship")) word word _ _ refl
    (same_pair (text (codes "activeManifest")) (ref_item (target_ref f i.of.label whole i.of.contents)) (ref_item (target_ref g i.of.label whole i.of.contents)) _ _ (same_by alg f g hf hg i.of.label whole i.of.contents)
    (same_pair (text (codes "claimSignature")) (ref_item (target_ref f i.of.label signature i.of.signed)) (ref_item (target_ref g i.of.label signature i.of.signed)) _ _ (same_by alg f g hf hg i.of.label signature i.of.signed) (same_all (pairs_of []))))

-- the bytes of an ingredient are as many, whichever hash gives the digests
ingredient_len : (alg : Alg) (f g : List ℕ → List ℕ) (i : NewIngredient) → HasDigestLen alg f → HasDigestLen alg g
    → length (deterministic (ingredient_item (written_ingredient f i))) ≡ length (deterministic (ingredient_item (written_ingredient g i)))
ingredient_len alg f g i hf hg =
    sorting_keeps_the_length (ingredient_item (written_ingredient f i))
    ∙ ap (λ v. length (preferred v)) (ingredient_is f i)
    ∙ same_dict (pairs_of (fields_of f i)) (pairs_of (fields_of g i)) (ingredients_same alg f g i hf hg)
    ∙ ap (λ v. length (preferred v)) (sym (ingredient_is g i))
    ∙ sym (sorting_keeps_the_length (ingredient_item (written_ingredient g i)))

-- the assertions of ingredients and a binding of one label and size are such, whichever hash gives the digests
same_own : (alg : Alg) (f g : List ℕ → List ℕ) (is : List NewIngredient) (a b : NewAssertion) → HasDigestLen alg f
    → HasDigestLen alg g → SameAssertion a b
    → SameAssertions (map (ingredient_assertion f) is ++ a ∷ []) (map (ingredient_assertion g) is ++ b ∷ [])
unfolding SameAssertions
same_own alg f g [] a b hf hg h = (h, tt)
same_own alg f g (i ∷ is) a b hf hg h =
    (record { label = refl; size = ingredient_len alg f g i hf hg }, same_own alg f g is a b hf hg h)

-- with the same assertions in front of both, such lists stay so
same_more : (xs as_ bs : List NewAssertion) → SameAssertions as_ bs → SameAssertions (xs ++ as_) (xs ++ bs)
unfolding SameAssertions
same_more [] as_ bs h = h
same_more (x ∷ xs) as_ bs h = (record { label = refl; size = refl }, same_more xs as_ bs h)

-- ---- the store

-- a manifest
pub manifest_len : (label : List ℕ) (as_ : List NewAssertion) (claim message : List ℕ)
    → length (tree_bytes (manifest_box label as_ claim message)) ≡ 194 + length label + length (trees_bytes (assertion_boxes as_)) + length claim + length message
manifest_len label as_ claim message =
    let a : Tree = fresh_box (codes "c2as") (codes "c2pa.assertions") (assertion_boxes as_) in
    let b : Tree = item_box (codes "c2cl") (codes "c2pa.claim.v2") claim in
    let s : Tree = item_box (codes "c2cs") (codes "c2pa.signature") message in
    omega (
      arith,
      fresh_len (codes "c2ma") label (more a (more b (more s none))) refl,
      fresh_len (codes "c2as") (codes "c2pa.assertions") (assertion_boxes as_) refl,
      length-append (tree_bytes a) (trees_bytes (more b (more s none))),
      length-append (tree_bytes b) (trees_bytes (more s none)),
      length-append (tree_bytes s) [],
      one_box_len (codes "c2cl") (codes "c2pa.claim.v2") (codes "cbor") claim refl,
      one_box_len (codes "c2cs") (codes "c2pa.signature") (codes "cbor") message refl,
    )

-- a store
pub store_len : (carried : Trees) (m : Tree)
    → length (tree_bytes (store_box carried m)) ≡ 38 + length (trees_bytes carried) + length (tree_bytes m)
store_len carried m =
    omega (arith, fresh_len (codes "c2pa") (codes "c2pa") (trees_then carried m) refl, then_len carried m)

-- stores with bindings of one size and messages of one length have one length
pub same_size : (f g : List ℕ → List ℕ) (c : Content) (a b : NewAssertion) (m n : List ℕ)
    → HasDigestLen (new_alg c.definition) f → HasDigestLen (new_alg c.definition) g → a.label ≡ b.label
    → length a.bytes ≡ length b.bytes → length m ≡ length n
    → length (tree_bytes (new_store f c a m)) ≡ length (tree_bytes (new_store g c b n))
same_size f g c a b m n hf hg el eb em =
    let as_ : List NewAssertion = new_assertions f c a in
    let bs : List NewAssertion = new_assertions g c b in
    let same : SameAssertions as_ bs =
    same_more c.definition.assertions _ _
    (same_own (new_alg c.definition) f g c.ingredients a b hf hg (record { label = el; size = eb })) in
    let claims : length (new_claim f c a) ≡ length (new_claim g c b) =
    claim_len (claim_parts f c a) (map (entry_of f) as_) (map (entry_of g) bs)
    (same_entries (new_alg c.definition) f g as_ bs hf hg same) in
    let one = manifest_len c.definition.label as_ (new_claim f c a) m in
    let two = manifest_len c.definition.label bs (new_claim g c b) n in
    omega
    (arith, store_len c.carried (new_manifest f c a m), store_len c.carried (new_manifest g c b n), one, two, claims, boxes_len as_ bs same, em)
