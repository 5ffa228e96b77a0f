-- Items that are written are read back: items of texts, bytes and numbers, lists of such, and maps whose keys have different bytes.
use Rattle.c2_cbor_spec.proofs.TheLaws.{round_trip, sorting_keeps_the_length}
use Rattle.std.specs.Prelude.{not, ◌&&◌}
use Rattle.std.proofs.Common.{◌≡◌, ⊎_elim, ℕ, suc, ◌^◌, ◌<◌, ◌≤◌, Bool, true, List, [], ◌∷◌, ◌++◌, length, map, refl, sym, ◌∙◌, subst, arith, bytes_eq}
use Rattle.std.specs.List.{AllByRecursion, list_all}
use Rattle.std.specs.Str.{IsUtf8}
use Rattle.std.proofs.lemmas.Bool.{and_parts, not-true, false≢true}
use Rattle.std.proofs.lemmas.List.{take_at}
use Rattle.std.proofs.lemmas.Slice.Eq.{bytes_eq-Decides}
use Rattle.c2_spec.specs.Cbor.Answers.{BeginsWith}
use Rattle.c2_spec.specs.Cbor.Deterministic.{sorted, deterministic, preferred}
use Rattle.c2_spec.specs.Cbor.Fields.{HasItem}
use Rattle.c2_spec.specs.Cbor.Item.{Item, uint, nint, bytes, text, list, dict, tag, simple, half, single, double, Items, no_items, item, Pairs, no_pairs, pair}
use Rattle.c2_spec.specs.Cbor.Legal.{depth, items_depth, pairs_depth, HasDistinctKeys, ItemsHaveDistinctKeys, PairsHaveDistinctKeys, HasBadSimple, ItemsHaveBadSimple, PairsHaveBadSimple}
use Rattle.c2_spec.specs.Cbor.Plain.{DiffersFrom, HasPlainKeys, ItemsHavePlainKeys, PairsHavePlainKeys, IsPlain}
use Rattle.c2_spec.specs.Cbor.Spelling.{Spells}
use Rattle.c2_spec.specs.Cbor.View.{items_of, pairs_of}
use Rattle.c2_spec.specs.Cbor.Writing.{field}
use Rattle.c2_new_file_spec.proofs.BoxLemmas.{is_plain_byte}
use Rattle.c2_new_file_spec.proofs.Spelled.{Fits, FitItems, FitPairs, spelled}
use Rattle.c2_new_file_spec.proofs.Texts.{plain_text}
use Rattle.c2_spec.proofs.CborShared.{new_from_bytes}

-- ---- legal

mutual
  no_bad : (v : Item) → Fits v → HasBadSimple v → ⊥
  no_bad (uint n) h e = e
  no_bad (nint n) h e = e
  no_bad (bytes b) h e = e
  no_bad (text t) h e = e
  no_bad (list vs) h e = no_bad_items vs h e
  no_bad (dict ps) h e = no_bad_pairs ps h e
  no_bad (tag n v) h e = no_bad v h.1 e
  no_bad (simple a) h e = h
  no_bad (half n) h e = e
  no_bad (single n) h e = e
  no_bad (double n) h e = e

  no_bad_items : (vs : Items) → FitItems vs → ItemsHaveBadSimple vs → ⊥
  no_bad_items no_items h e = e
  no_bad_items (item v vs) h e = ⊎_elim (no_bad v h.0) (no_bad_items vs h.1) e

  no_bad_pairs : (ps : Pairs) → FitPairs ps → PairsHaveBadSimple ps → ⊥
  no_bad_pairs no_pairs h e = e
  no_bad_pairs (pair k v ps) h e = ⊎_elim (no_bad k h.0) (λ f. ⊎_elim (no_bad v h.1) (no_bad_pairs ps h.2) f) e

mutual
  distinct : (v : Item) → HasPlainKeys v → HasDistinctKeys v
  distinct (uint n) h = tt
  distinct (nint n) h = tt
  distinct (bytes b) h = tt
  distinct (text t) h = tt
  distinct (list vs) h = distinct_items vs h
  distinct (dict ps) h = distinct_pairs ps h
  distinct (tag n v) h = distinct v h
  distinct (simple a) h = tt
  distinct (half n) h = tt
  distinct (single n) h = tt
  distinct (double n) h = tt

  distinct_items : (vs : Items) → ItemsHavePlainKeys vs → ItemsHaveDistinctKeys vs
  distinct_items no_items h = tt
  distinct_items (item v vs) h = (distinct v h.0, distinct_items vs h.1)

  distinct_pairs : (ps : Pairs) → PairsHavePlainKeys ps → PairsHaveDistinctKeys ps
  distinct_pairs no_pairs h = tt
  distinct_pairs (pair k v ps) h = (distinct k h.0, distinct v h.1, new_from_bytes k ps h.2, distinct_pairs ps h.3)

-- ---- good items

-- an item that can be written and read, at most so deep
pub record Good (d : ℕ) (v : Item) : Type 0 where
  pub fits : Fits v
  pub plain : HasPlainKeys v
  pub shallow : depth v ≤ d

-- a text in UTF-8 is a good item
pub good_text : (d : ℕ) (t : List ℕ) → 1 ≤ d → IsUtf8 t → Good d (text t)
good_text d t l u = record { fits = u; plain = tt; shallow = l }

-- a byte string is a good item
pub good_bytes : (d : ℕ) (b : List ℕ) → 1 ≤ d → Good d (bytes b)
good_bytes d b l = record { fits = tt; plain = tt; shallow = l }

-- a number below 2^64 is a good item
pub good_uint : (d n : ℕ) → 1 ≤ d → n < 2 ^ 64 → Good d (uint n)
good_uint d n l h = record { fits = h; plain = tt; shallow = l }

-- a list of good items
pub good_list : (d : ℕ) (vs : List Item) → AllByRecursion (Good d) vs → Good (suc d) (list (items_of vs))
good_list d vs h = record { fits = fit vs h; plain = plain vs h; shallow = omega (arith, deep vs h) }
  where
    fit : (vs : List Item) → AllByRecursion (Good d) vs → FitItems (items_of vs)
    fit [] h = tt
    fit (v ∷ vs) h = (h.0.fits, fit vs h.1)

    plain : (vs : List Item) → AllByRecursion (Good d) vs → ItemsHavePlainKeys (items_of vs)
    plain [] h = tt
    plain (v ∷ vs) h = (h.0.plain, plain vs h.1)

    deep : (vs : List Item) → AllByRecursion (Good d) vs → items_depth (items_of vs) ≤ d
    deep [] h = omega arith
    deep (v ∷ vs) h = omega (arith, h.0.shallow, deep vs h.1)

-- ---- maps

-- no key has the bytes of this one
abbrev pub is_apart : Item → List Item → Bool
is_apart k [] = true
is_apart k (l ∷ ls) = not (bytes_eq (deterministic k) (deterministic l)) && is_apart k ls

-- no two have the same
abbrev pub keys_differ : List Item → Bool
keys_differ [] = true
keys_differ (k ∷ ks) = is_apart k ks && keys_differ ks

-- the keys of fields
abbrev pub keys_of : List (Item × Item) → List Item
keys_of fs = map (λ f. f.0) fs

-- the key and the value of a field
pub record IsGoodField (d : ℕ) (f : Item × Item) : Type 0 where
  pub key : Good d f.0
  pub value : Good d f.1

-- a field with a key in UTF-8 and a good item as value is good
pub good_field : (d : ℕ) (key : List ℕ) (v : Item) → 1 ≤ d → IsUtf8 key → Good d v → IsGoodField d (text key, v)
good_field d key v l u g = record { key = good_text d key l u; value = g }

-- what the test on keys says
apart : (k : Item) (fs : List (Item × Item)) → is_apart k (keys_of fs) ≡ true → DiffersFrom k (pairs_of fs)
apart k [] h = tt
apart k (f ∷ fs) h =
    let both = and_parts (not (bytes_eq (deterministic k) (deterministic f.0))) (is_apart k (keys_of fs)) h in
    (λ e. false≢true (sym (not-true (bytes_eq (deterministic k) (deterministic f.0)) both.0) ∙ (bytes_eq-Decides (deterministic k) (deterministic f.0)).1 e), apart k fs both.1)

-- a map of good fields whose keys differ
pub good_map : (d : ℕ) (fs : List (Item × Item)) → AllByRecursion (IsGoodField d) fs → keys_differ (keys_of fs) ≡ true
    → Good (suc d) (dict (pairs_of fs))
good_map d fs h differ = record { fits = fit fs h; plain = plain fs h differ; shallow = omega (arith, deep fs h) }
  where
    fit : (fs : List (Item × Item)) → AllByRecursion (IsGoodField d) fs → FitPairs (pairs_of fs)
    fit [] h = tt
    fit (f ∷ fs) h = (h.0.key.fits, h.0.value.fits, fit fs h.1)

    plain : (fs : List (Item × Item)) → AllByRecursion (IsGoodField d) fs → keys_differ (keys_of fs) ≡ true
        → PairsHavePlainKeys (pairs_of fs)
    plain [] h e = tt
    plain (f ∷ fs) h e = let both = and_parts (is_apart f.0 (keys_of fs)) (keys_differ (keys_of fs)) e in (h.0.key.plain, h.0.value.plain, apart f.0 fs both.0, plain fs h.1 both.1)

    deep : (fs : List (Item × Item)) → AllByRecursion (IsGoodField d) fs → pairs_depth (pairs_of fs) ≤ d
    deep [] h = omega arith
    deep (f ∷ fs) h = omega (arith, h.0.key.shallow, h.0.value.shallow, deep fs h.1)

-- a field whose key is of letters
pub named_field : (d : ℕ) (key : List ℕ) (v : Item) → list_all is_plain_byte key ≡ true → 1 ≤ d → Good d v
    → IsGoodField d (field key v)
named_field d key v h l g = good_field d key v l (plain_text key h) g

-- an item that is good to some depth is good to a greater one
pub more_deep : (d e : ℕ) (v : Item) → Good d v → d ≤ e → Good e v
more_deep d e v g l = record { fits = g.fits; plain = g.plain; shallow = omega (arith, g.shallow, l) }

-- ---- read back

-- the deterministic bytes of a good item are that item, sorted
pub good_read : (v : Item) → Good 64 v → length (deterministic v) < 2 ^ 64 → HasItem (deterministic v) (sorted v)
good_read v g short =
    let size : length (preferred v) < 2 ^ 64 = omega (arith, sorting_keeps_the_length v, short) in
    let plain : IsPlain v =
    record
    { legal = record { shallow = g.shallow; distinct = distinct v g.plain; no_bad_simple = no_bad v g.fits }; plain = g.plain } in
    let b : BeginsWith (deterministic v ++ []) (sorted v) (length (deterministic v)) =
    round_trip v (preferred v) [] (spelled v g.fits size) size plain in
    record
    { legal = b.legal; spelled = subst (Spells (sorted v)) (take_at (deterministic v) [] (length (deterministic v)) refl) b.spelled }
