-- The pairs of lists that two stores with one active claim are compared by, in their order, and the first of
-- these pairs whose lists aren't equal (this project's own choice; what is bound is that of the C2PA Technical
-- Specification 2.x, "Ingredient", "Assertions" and "Hard bindings").
--
-- First come the pairs that lead from a manifest to its ingredients, the last reached manifest first; then
-- those of all assertions that aren't redacted, in the same order of manifests; then the covered texts. What
-- isn't there counts as an empty list: in accepted files all is there up to the first difference. Locations
-- and order are those of the first store.
--
-- Of two manifests that correspond, `r` is that of the first store and `q` that of the second; of two that
-- an ingredient names, `target` and `other`.
use Rattle.std.specs.Prelude.{ℕ, ◌-◌, List, [], ◌∷◌, ◌++◌, length, take, find, slice_get, codes, bytes_eq, Option, Some, None, unwrap_or, option_and_then, if◌then◌else◌}
use Rattle.std.specs.List.{flat_map}
use Rattle.std.specs.Option.{option_map_or}
use Rattle.c2_spec.specs.C2pa.Manifest.{Superbox}
use Rattle.c2_spec.specs.C2pa.Uri.{whole, signature}
use Rattle.c2_spec.specs.declared.assertion.Ingredient.{Ingredient}
use Rattle.c2_spec.specs.declared.cbor.Ref.{Ref}
use Rattle.c2_rules.specs.Binding.{Binding, binding_value}
use Rattle.c2_rules.specs.Chains.{label_in, named_by, entry_label, is_active, is_reached, is_redacted}
use Rattle.c2_rules.specs.CheckList.{StoreReading, active_in}
use Rattle.c2_rules.specs.Ingredients.{is_ingredient_kind, assertion_uri}
use Rattle.c2_rules.specs.Readings.{ReadBox, Reading, value_in, entries_in}
use Rattle.c2_rules.specs.Rules.{box_uri, alg_in, box_with, label_kind}
use Rattle.c2_rules.specs.Tests.{downward}
use Rattle.c2_compare_spec.specs.ChainContent.{claim_bytes_of, covered_text}
use Rattle.c2_compare_spec.specs.Evidence.{ListPair, by_digest, by_signature, do_differ}

-- ---- what corresponds in two stores

-- the manifest with this label among those that aren't active
abbrev pub other_named : List Reading → List ℕ → Option Reading
other_named rs label =
    find (λ (r : Reading). bytes_eq (label_in r) label) (take (length rs - 1) rs)

-- the manifest of the second store that takes the place of this one: the active one for the active one, else
-- the one that has its label
abbrev pub counterpart : List Reading → List Reading → ℕ → Reading → Option Reading
counterpart rs ss place r = if is_active rs place then active_in ss else other_named ss (label_in r)

-- the counterpart of the manifest at a place of the first store
abbrev pub counterpart_at : List Reading → List Reading → ℕ → Option Reading
counterpart_at rs ss place = option_and_then (counterpart rs ss place) (slice_get rs place)

-- ---- lists of one manifest

-- a box that isn't there
abbrev pub no_superbox : Superbox
no_superbox = record { label = None; contents = []; item = None }

-- the contents of the assertion box with this label ("Assertions")
abbrev pub contents_with : Reading → List ℕ → List ℕ
contents_with r label = option_map_or (λ (b : ReadBox). b.boxed.contents) (box_with r label) []

-- the signature box of a manifest ("Signing a claim")
abbrev pub signature_box : Option Reading → Superbox
signature_box r = unwrap_or (option_and_then (λ (x : Reading). x.manifest.signature) r) no_superbox

-- the claim bytes of a manifest ("Claims")
abbrev pub claim_list : Option Reading → List ℕ
claim_list r = unwrap_or (option_and_then claim_bytes_of r) []

-- the contents of a manifest, which a hashed URI of the whole manifest covers ("Hashed URIs")
abbrev pub whole_contents : Option Reading → List ℕ
whole_contents r = option_map_or (λ (x : Reading). x.manifest.contents) r []

-- ---- pairs

-- the pair of the boxes with this label, which an entry of the claim of `r` lists
abbrev pub box_pair : Reading → Reading → Ref → List ℕ → ListPair
box_pair r q entry label = record {
  bound_by = by_digest (alg_in r entry.alg);
  location = assertion_uri (label_in r) label;
  left = contents_with r label;
  right = contents_with q label;
}

-- the pair of the signature boxes of the manifests with this label, which an ingredient of `r` refers to by
-- this reference
abbrev pub signature_pair : Reading → Ref → List ℕ → Option Reading → Option Reading → ListPair
signature_pair r reference label target other = record {
  bound_by = by_digest (alg_in r reference.alg);
  location = box_uri label signature;
  left = (signature_box target).contents;
  right = (signature_box other).contents;
}

-- the pair of the claims of these manifests, which the signature in the first one's box is made over
abbrev pub claim_pair : List ℕ → Option Reading → Option Reading → ListPair
claim_pair label target other = record {
  bound_by = by_signature (signature_box target);
  location = box_uri label signature;
  left = claim_list target;
  right = claim_list other;
}

-- the pair of the contents of the manifests with this label, by the name of an algorithm that an ingredient
-- of `r` gives, where it gives one
abbrev pub whole_pair : Reading → Option (List ℕ) → List ℕ → Option Reading → Option Reading
    → ListPair
whole_pair r alg label target other = record {
  bound_by = by_digest (alg_in r alg);
  location = box_uri label whole;
  left = whole_contents target;
  right = whole_contents other;
}

-- the pairs of the manifests with this label that an ingredient of `r` binds: of their signature boxes and
-- then of their claims where it refers to the signature, else of their contents
abbrev pub target_pairs : Reading → Ingredient → Option Ref → List ℕ → Option Reading
    → Option Reading → List ListPair
target_pairs r g (Some reference) label target other =
    signature_pair r reference label target other ∷ claim_pair label target other ∷ []
target_pairs r g None label target other =
    whole_pair r (option_and_then (λ (ref : Ref). ref.alg) g.manifest) label target other ∷ []

-- the pairs of the manifests whose label an ingredient of `r` names; none where it names no manifest
abbrev pub label_pairs : List Reading → List Reading → Reading → Ingredient → Option (List ℕ)
    → List ListPair
label_pairs rs ss r g None = []
label_pairs rs ss r g (Some label) =
    target_pairs r g g.signature label (other_named rs label) (other_named ss label)

-- the pairs of the manifests that a box of `r` names, where it is read as this ingredient; none where it is
-- read as none
abbrev pub named_pairs : List Reading → List Reading → Reading → Option Ingredient
    → List ListPair
named_pairs rs ss r None = []
named_pairs rs ss r (Some g) = label_pairs rs ss r g (named_by (Some g))

-- the ingredient that the box with this label is read as
abbrev pub ingredient_with : Reading → List ℕ → Option Ingredient
ingredient_with r label =
    option_and_then (λ (b : ReadBox). value_in b.ingredient) (box_with r label)

-- the pairs that lead from an entry with this label to an ingredient: none where it is no ingredient's; else
-- the pair of its boxes, and those of the manifests that it names
abbrev pub ingredient_pairs : List Reading → List Reading → Reading → Reading → Ref → List ℕ
    → List ListPair
ingredient_pairs rs ss r q entry label =
    if is_ingredient_kind (label_kind label)
    then box_pair r q entry label ∷ named_pairs rs ss r (ingredient_with r label)
    else []

-- the pair of an entry with this label of the manifest at a place; none where the label is redacted there
abbrev pub unredacted_pairs : List Reading → ℕ → Reading → Reading → Ref → List ℕ → List ListPair
unredacted_pairs rs place r q entry label =
    if is_redacted rs place label then [] else box_pair r q entry label ∷ []

-- ---- the pairs of all entries, and of all manifests

-- the pairs of the entries of a manifest's claim, in order, each entry with its label
abbrev pub entry_pairs : (Ref → List ℕ → List ListPair) → Reading → List ListPair
entry_pairs pairs r =
    flat_map (λ (e : Ref). option_map_or (pairs e) (entry_label r.manifest e) []) (entries_in r)

-- the pairs of two manifests that correspond, where both are there
abbrev pub pairs_between : (Reading → Reading → List ListPair) → Option Reading → Option Reading
    → List ListPair
pairs_between pairs (Some r) (Some q) = pairs r q
pairs_between pairs r q = []

-- the pairs of the manifest at a place of the first store, where it is reached, and its counterpart
abbrev pub pairs_at : (ℕ → Reading → Reading → List ListPair) → List Reading → List Reading → ℕ
    → List ListPair
pairs_at pairs rs ss place =
    if is_reached rs place
    then pairs_between (pairs place) (slice_get rs place) (counterpart_at rs ss place)
    else []

-- the pairs that lead from the manifest at a place to its ingredients
abbrev pub ingredients_at : List Reading → List Reading → ℕ → List ListPair
ingredients_at rs ss = pairs_at (λ place r q. entry_pairs (ingredient_pairs rs ss r q) r) rs ss

-- the pairs of the assertions of the manifest at a place that aren't redacted
abbrev pub unredacted_at : List Reading → List Reading → ℕ → List ListPair
unredacted_at rs ss = pairs_at (λ place r q. entry_pairs (unredacted_pairs rs place r q) r) rs ss

-- the pairs that lead to ingredients from all reached manifests, the last manifest first
abbrev pub all_ingredients : List Reading → List Reading → List ListPair
all_ingredients rs ss = downward (ingredients_at rs ss) (length rs)

-- the pairs of the assertions that aren't redacted of all reached manifests, the last manifest first
abbrev pub all_unredacted : List Reading → List Reading → List ListPair
all_unredacted rs ss = downward (unredacted_at rs ss) (length rs)

-- ---- the pair of the covered texts

-- the name of the algorithm of a binding in a manifest
abbrev pub binding_alg : Option Reading → Option Binding → List ℕ
binding_alg (Some r) (Some b) = alg_in r b.alg
binding_alg r b = []

-- the name of the algorithm of the active manifest's binding
abbrev pub covered_alg : StoreReading → List ℕ
covered_alg s = binding_alg (active_in s.readings) (binding_value s.binding)

-- the covered texts of both files
abbrev pub covered_pair : StoreReading → StoreReading → ListPair
covered_pair s t = record {
  bound_by = by_digest (covered_alg s);
  location = codes "covered";
  left = covered_text s;
  right = covered_text t;
}

-- ---- the first difference

-- the pairs of two stores, in their order
abbrev pub all_pairs : StoreReading → StoreReading → List ListPair
all_pairs s t =
    all_ingredients s.readings t.readings
    ++ (all_unredacted s.readings t.readings ++ covered_pair s t ∷ [])

-- the first pair whose lists aren't equal
abbrev pub first_difference : StoreReading → StoreReading → Option ListPair
first_difference s t = find do_differ (all_pairs s t)
