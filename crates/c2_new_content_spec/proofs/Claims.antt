-- A written claim is read as the claim that it was made of.
use Rattle.c2_claim.proofs.TheLaws.{a_written_claim_is_read}
use Rattle.std.specs.Prelude.{IfSome}
use Rattle.std.proofs.Common.{◌≡◌, ℕ, ◌^◌, ◌<◌, true, List, [], ◌∷◌, ◌++◌, length, map, Option, Some, None, refl, sym, subst, codes, lit≤}
use Rattle.std.specs.List.{AllByRecursion}
use Rattle.std.specs.Str.{IsUtf8}
use Rattle.c2_spec.specs.declared.claim.ClaimVersion.TheVariants.{V2}
use Rattle.c2_spec.specs.C2pa.Claim.{IsClaim}
use Rattle.c2_spec.specs.Cbor.Deterministic.{sorted, deterministic, shortest_head}
use Rattle.c2_spec.specs.Cbor.Item.{Item, bytes, text, list}
use Rattle.c2_spec.specs.Cbor.View.{items_of}
use Rattle.c2_spec.specs.Cbor.Writing.{field, field_if, ref_item}
use Rattle.c2_spec.specs.declared.cbor.Ref.{Ref}
use Rattle.c2_claim.specs.Written.{claim_item, claim_from, claim_fields, generator_item, redactions_field, signature_uri}
use Rattle.c2_claim.specs.declared.writing.ClaimParts.{ClaimParts}
use Rattle.c2_new_file_spec.proofs.GoodItems.{Good, IsGoodField, good_text, good_bytes, good_list, good_map, keys_of, keys_differ, good_read, more_deep, named_field}
use Rattle.c2_lemmas.proofs.Each.{each_append}

-- ---- references

-- a reference that can be written
pub record IsGoodRef (r : Ref) : Type 0 where
  pub url : IsUtf8 r.url
  pub alg : r.alg ≡ None

-- the item of a reference without an algorithm is good, where its URI is UTF-8
pub bare_good : (url hash : List ℕ) → IsUtf8 url → Good 2 (ref_item (record { url = url; hash = hash; alg = None }))
unfolding shortest_head
bare_good url hash u =
    good_map 1 (field (codes "url") (text url) ∷ field (codes "hash") (bytes hash) ∷ [])
    (named_field 1 (codes "url") (text url) refl (lit≤ tt) (good_text 1 url (lit≤ tt) u), (named_field 1 (codes "hash") (bytes hash) refl (lit≤ tt) (good_bytes 1 hash (lit≤ tt)), tt))
    refl

-- the item of a reference that can be written is good
ref_good : (r : Ref) → IsGoodRef r → Good 2 (ref_item r)
ref_good r h =
    subst (λ (o : Option (List ℕ)). Good 2 (ref_item (record { url = r.url; hash = r.hash; alg = o }))) (sym h.alg)
    (bare_good r.url r.hash h.url)

-- the items of a list of references that can be written are good
refs_good : (rs : List Ref) → AllByRecursion IsGoodRef rs → AllByRecursion (Good 2) (map ref_item rs)
refs_good [] h = tt
refs_good (r ∷ rs) h = (ref_good r h.0, refs_good rs h.1)

-- texts in UTF-8 are good items
texts_good : (ts : List (List ℕ)) → AllByRecursion IsUtf8 ts → AllByRecursion (Good 1) (map text ts)
texts_good [] h = tt
texts_good (t ∷ ts) h = (good_text 1 t (lit≤ tt) h.0, texts_good ts h.1)

-- ---- claims

-- what is asked of the parts of a claim: their texts are UTF-8
pub record AreGoodParts (p : ClaimParts) : Type 0 where
  pub signature : IsUtf8 (signature_uri p.label)
  pub instance : IsUtf8 p.instance
  pub generator : IsUtf8 p.generator
  pub title : IfSome p.title IsUtf8
  pub alg : IsUtf8 p.alg
  pub entries : AllByRecursion IsGoodRef p.entries
  pub redacted : AllByRecursion IsUtf8 p.redacted

-- the field of a title is good, where the title is UTF-8 or there is none
title_good : (o : Option (List ℕ)) → IfSome o IsUtf8
    → AllByRecursion (IsGoodField 3) (field_if (codes "dc:title") text o)
title_good None h = tt
title_good (Some t) h = (named_field 3 (codes "dc:title") (text t) refl (lit≤ tt) (good_text 3 t (lit≤ tt) h), tt)

-- the field of redactions is good, where all are UTF-8 or there are none
redactions_good : (ts : List (List ℕ)) → AllByRecursion IsUtf8 ts → AllByRecursion (IsGoodField 3) (redactions_field ts)
redactions_good [] h = tt
redactions_good (t ∷ ts) h =
    (named_field 3 (codes "redacted_assertions") _ refl (lit≤ tt) (more_deep 2 3 _ (good_list 1 (map text (t ∷ ts)) (texts_good (t ∷ ts) h)) (lit≤ tt)), tt)

-- the item of the generator is good, where its name is UTF-8
generator_good : (name : List ℕ) → IsUtf8 name → Good 2 (generator_item name)
unfolding shortest_head
generator_good name u =
    good_map 1 (field (codes "name") (text name) ∷ [])
    (named_field 1 (codes "name") (text name) refl (lit≤ tt) (good_text 1 name (lit≤ tt) u), tt) refl

-- each field of a claim of good parts is good
fields_good : (p : ClaimParts) → AreGoodParts p → AllByRecursion (IsGoodField 3) (claim_fields p)
fields_good p h =
    let middle : List (Item × Item) =
    field (codes "signature") (text (signature_uri p.label)) ∷ field (codes "instanceID") (text p.instance)
    ∷ field (codes "created_assertions") (list (items_of (map ref_item p.entries))) ∷ redactions_field
    p.redacted in
    let last : List (Item × Item) = field (codes "claim_generator_info") (generator_item p.generator) ∷ [] in
    let front : List (Item × Item) = field (codes "alg") (text p.alg) ∷ field_if (codes "dc:title") text p.title in
    each_append (IsGoodField 3) (front ++ middle) last
    (each_append (IsGoodField 3) front middle
    (named_field 3 (codes "alg") (text p.alg) refl (lit≤ tt) (good_text 3 p.alg (lit≤ tt) h.alg), title_good p.title h.title) (
      named_field 3 (codes "signature") _ refl (lit≤ tt) (good_text 3 (signature_uri p.label) (lit≤ tt) h.signature),
      (
        named_field 3 (codes "instanceID") _ refl (lit≤ tt) (good_text 3 p.instance (lit≤ tt) h.instance),
        (named_field 3 (codes "created_assertions") _ refl (lit≤ tt) (good_list 2 (map ref_item p.entries) (refs_good p.entries h.entries)), redactions_good p.redacted h.redacted),
      ),
    ))
    (named_field 3 (codes "claim_generator_info") _ refl (lit≤ tt) (more_deep 2 3 _ (generator_good p.generator h.generator) (lit≤ tt)), tt)

-- the keys of a claim's fields differ
parts_keys : (label instance generator : List ℕ) (title : Option (List ℕ)) (alg : List ℕ) (entries : List Ref) (redacted : List (List ℕ))
    → keys_differ (keys_of (claim_fields (record { label = label; instance = instance; generator = generator; title = title; alg = alg; entries = entries; redacted = redacted }))) ≡ true
unfolding shortest_head
parts_keys label instance generator None alg entries [] = refl
parts_keys label instance generator None alg entries (t ∷ ts) = refl
parts_keys label instance generator (Some t) alg entries [] = refl
parts_keys label instance generator (Some t) alg entries (r ∷ rs) = refl

-- a written claim of such parts is read as the claim that it was made of
pub claim_read : (p : ClaimParts) → AreGoodParts p → length (deterministic (claim_item p)) < 2 ^ 64
    → IsClaim V2 (deterministic (claim_item p)) (claim_from p)
claim_read p h short = record {
  item = sorted (claim_item p);
  has =
      good_read (claim_item p)
      (more_deep 4 64 (claim_item p) (good_map 3 (claim_fields p) (fields_good p h) (parts_keys p.label p.instance p.generator p.title p.alg p.entries p.redacted)) (lit≤ tt))
      short;
  is = a_written_claim_is_read p;
}
