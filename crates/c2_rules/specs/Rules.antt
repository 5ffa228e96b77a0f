-- The check list of one manifest: its rules as lists of conditions, in their order, each with its code and the URI of the box at
-- which it fails (C2PA Technical Specification 2.x, "Validation").
--
-- A condition on a value that isn't there counts as failing. `hash` gives the digest of a list.
use Rattle.std.specs.Prelude.{ℕ, nat_lt, Bool, true, false, not, ◌==◌, ◌&&◌, ◌||◌, List, [], ◌∷◌, ◌++◌, Option, Some, None, length, take, slice_get, find, filter, filter_map, codes, bytes_eq, is_some, is_none, unwrap_or, option_and_then, option_map, if◌then◌else◌}
use Rattle.std.specs.List.{list_any}
use Rattle.std.specs.Option.{option_map_or}
use Rattle.c2_spec.specs.C2pa.Assertion.{kind_of, manifest_named}
use Rattle.c2_spec.specs.C2pa.Claim.{claim_version}
use Rattle.c2_spec.specs.Digest.{alg_named}
use Rattle.c2_spec.specs.C2pa.Manifest.{Manifest, Superbox, is_given}
use Rattle.c2_spec.specs.C2pa.Uri.{PlainUri, PlainTarget, whole, assertion, signature, other, uri_of, uri_text}
use Rattle.c2_spec.specs.declared.assertion.Ingredient.{Ingredient}
use Rattle.c2_spec.specs.declared.assertion.Kind.{Kind}
use Rattle.c2_spec.specs.declared.assertion.Kind.TheVariants as kinds
use Rattle.c2_spec.specs.declared.assertion.Relationship.{Relationship}
use Rattle.c2_spec.specs.declared.assertion.Relationship.TheVariants as relationship
use Rattle.c2_spec.specs.declared.cbor.Ref.{Ref}
use Rattle.c2_spec.specs.declared.claim.Claim.{Claim}
use Rattle.c2_spec.specs.declared.digest.Alg.{Alg}
use Rattle.c2_spec.specs.declared.panel.Verdict.{Verdict}
use Rattle.c2_spec.specs.declared.panel.Verdict.TheVariants as verdict
use Rattle.c2_rules.specs.Chains.{label_in, named_by, entry_label, passes_some}
use Rattle.c2_rules.specs.Ingredients.{assertion_uri, is_ingredient}
use Rattle.c2_rules.specs.Readings.{ReadBox, Reading, value_in, claim_in, entries_in, redactions_in, names_signature}
use Rattle.c2_rules.specs.Seen.{Seen, Standing}
use Rattle.c2_rules.specs.Seen as seen
use Rattle.c2_rules.specs.Tests.{Test, test, each, over_all}
use Rattle.c2_rules.specs.declared.code.Code.{Code}
use Rattle.c2_rules.specs.declared.code.Code.TheVariants as code
use Rattle.c2_rules.specs.declared.parsed.Parsed.{Parsed}
use Rattle.c2_rules.specs.declared.parsed.Parsed.TheVariants.{NoItem, NoForm, Value}

-- ---- URIs

-- the URI of a box in the manifest with this label
abbrev pub box_uri : List ℕ → PlainTarget → List ℕ
box_uri label target = uri_text (record { manifest = Some label; target = target })

-- the URI of a manifest
abbrev pub manifest_uri : Reading → List ℕ
manifest_uri r = box_uri (label_in r) whole

-- the URI of a manifest's signature box
abbrev pub signature_uri : Reading → List ℕ
signature_uri r = box_uri (label_in r) signature

-- the label of the first claim box
abbrev pub claim_label : List Superbox → Option (List ℕ)
claim_label boxes = option_and_then (λ (b : Superbox). b.label) (slice_get boxes 0)

-- the URI of a manifest's first claim box
abbrev pub claim_uri : Reading → List ℕ
claim_uri r = box_uri (label_in r) (other (unwrap_or (claim_label r.manifest.claims) []))

-- what the URI of an assertion box points to: the assertion store where the box has no label
abbrev pub assertion_target : Option (List ℕ) → PlainTarget
assertion_target None = other (codes "c2pa.assertions")
assertion_target (Some label) = assertion label

-- the URI of an assertion box with this label, or without one
abbrev pub assertion_box_uri : Reading → Option (List ℕ) → List ℕ
assertion_box_uri r label = box_uri (label_in r) (assertion_target label)

-- ---- digests

-- the name of an algorithm: its own where there is one, else the claim's, else sha256
abbrev pub claim_alg : Option Claim → Option (List ℕ)
claim_alg None = None
claim_alg (Some c) = c.alg

-- a name of its own, or another, or sha256 where neither is there
abbrev pub alg_or : Option (List ℕ) → Option (List ℕ) → List ℕ
alg_or (Some own) claims = own
alg_or None claims = unwrap_or claims (codes "sha256")

-- the name that the claim of this manifest gives
abbrev pub claim_alg_in : Reading → Option (List ℕ)
claim_alg_in r = claim_alg (claim_in r)

-- the algorithm of a reference or a binding in this manifest
abbrev pub alg_in : Reading → Option (List ℕ) → List ℕ
alg_in r own = alg_or own (claim_alg_in r)

-- the algorithm of a reference or a binding in this manifest is known
abbrev pub is_known : Reading → Option (List ℕ) → Bool
is_known r own = is_some (alg_named (alg_in r own))

-- this list has this digest by an algorithm
abbrev pub has_digest_by : (Alg → List ℕ → List ℕ) → Option Alg → List ℕ → List ℕ → Bool
has_digest_by hash None list digest = false
has_digest_by hash (Some alg) list digest = bytes_eq (hash alg list) digest

-- this list has this digest by the algorithm of a reference or a binding in this manifest
abbrev pub has_digest : (Alg → List ℕ → List ℕ) → Reading → Option (List ℕ) → List ℕ → List ℕ → Bool
has_digest hash r own list digest = has_digest_by hash (alg_named (alg_in r own)) list digest

-- ---- kinds

-- what an assertion is by its label; proofs open it where they need to
unfoldable pub label_kind : List ℕ → Kind
label_kind label = kind_of label

-- a binding of another kind
abbrev pub is_other_hash : Kind → Bool
is_other_hash kinds.OtherHash = true
is_other_hash kind = false

-- a binding of a kind that is known
abbrev pub is_binding : Kind → Bool
is_binding kinds.DataHash = true
is_binding kinds.BmffHash = true
is_binding kind = false

-- a hash of any kind
abbrev pub is_hash : Kind → Bool
is_hash kind = is_binding kind || is_other_hash kind

-- ---- the claim and the signature

-- there is no item
abbrev pub is_no_item : {A : Type 0} → Parsed A → Bool
is_no_item NoItem = true
is_no_item NoForm = false
is_no_item (Value x) = false

-- the rules of the claim and its signature, which come before the verdict
abbrev pub claim_tests : Reading → List Test
claim_tests r =
    test (length r.manifest.claims == 0) code.ClaimMissing (manifest_uri r)
    ∷ test (nat_lt 1 (length r.manifest.claims)) code.ClaimMultiple (manifest_uri r)
    ∷ test (is_none (option_and_then claim_version (claim_label r.manifest.claims)))
    code.UnsupportedClaimVersion (manifest_uri r)
    ∷ test (is_no_item r.claim) code.ClaimCborInvalid (claim_uri r)
    ∷ test (is_none (claim_in r)) code.ProfileClaimFields (claim_uri r)
    ∷ test (not (names_signature r.manifest (claim_in r))) code.ClaimSignatureMissing
    (signature_uri r)
    ∷ test (is_none r.message) code.ProfileSignatureForm (signature_uri r)
    ∷ []

-- why a verdict fails: all but approval do
abbrev pub verdict_code : Verdict → Option Code
verdict_code verdict.Approved = None
verdict_code verdict.Mismatch = Some code.ClaimSignatureMismatch
verdict_code verdict.Untrusted = Some code.SigningCredentialUntrusted
verdict_code verdict.Invalid = Some code.SigningCredentialInvalid
verdict_code verdict.Silent = Some code.ProfileVerdictMissing

-- the rule on the verdict; where nothing could be asked, each of its cases fails, the first of them first
abbrev pub verdict_tests : Reading → Option Verdict → List Test
verdict_tests r None = test true code.ClaimSignatureMismatch (signature_uri r) ∷ []
verdict_tests r (Some v) =
    option_map_or (λ (c : Code). test true c (signature_uri r) ∷ []) (verdict_code v) []

-- ---- ingredients whose manifest is a child

-- an algorithm of the two references is unknown
abbrev pub has_unknown : Reading → Ref → Option Ref → Bool
has_unknown r manifest sign =
    not (is_known r manifest.alg) || passes_some (λ (ref : Ref). not (is_known r ref.alg)) sign

-- the contents are there with the digest of this reference
abbrev pub has_contents : (Alg → List ℕ → List ℕ) → Reading → Ref → Option (List ℕ) → Bool
has_contents hash r ref contents =
    passes_some (λ (bytes : List ℕ). has_digest hash r ref.alg bytes ref.hash) contents

-- the reference to a signature is there, and isn't that of these contents
abbrev pub is_wrong_signature : (Alg → List ℕ → List ℕ) → Reading → Option Ref → Option (List ℕ)
    → Bool
is_wrong_signature hash r sign contents =
    passes_some (λ (ref : Ref). not (has_contents hash r ref contents)) sign

-- an ingredient by these references whose manifest stands so; one that is no child is tested by another rule
abbrev pub standing_tests : (Alg → List ℕ → List ℕ) → Reading → List ℕ → Ref → Option Ref → Standing
    → List Test
standing_tests hash r uri manifest sign seen.missing = []
standing_tests hash r uri manifest sign seen.later = []
standing_tests hash r uri manifest sign (seen.touched signed) =
    test (has_unknown r manifest sign) code.AlgorithmUnsupported uri
    ∷ test (is_none sign || is_wrong_signature hash r sign signed) code.ProfileIngredientSignature
    uri
    ∷ []
standing_tests hash r uri manifest sign (seen.whole signed contents) =
    test (has_unknown r manifest sign) code.AlgorithmUnsupported uri
    ∷ test (is_wrong_signature hash r sign signed) code.ProfileIngredientSignature uri
    ∷ test (not (has_digest hash r manifest.alg contents manifest.hash))
    code.IngredientManifestMismatch uri
    ∷ []

-- an ingredient by the label that its reference to a manifest names
abbrev pub reference_tests : (Alg → List ℕ → List ℕ) → Seen → List ℕ → Option Ref → Ref → List Test
reference_tests hash s uri sign manifest =
    option_map_or
    (λ (label : List ℕ). standing_tests hash s.own uri manifest sign (s.standing label))
    (manifest_named manifest.url) []

-- the rule on an ingredient whose box has this URI
abbrev pub child_tests : (Alg → List ℕ → List ℕ) → Seen → List ℕ → Ingredient → List Test
child_tests hash s uri g = option_map_or (reference_tests hash s uri g.signature) g.manifest []

-- the rule on an assertion box: none where it isn't read as an ingredient
abbrev pub ingredient_tests : (Alg → List ℕ → List ℕ) → Seen → ReadBox → List Test
ingredient_tests hash s b =
    option_map_or (child_tests hash s (assertion_box_uri s.own b.boxed.label))
    (value_in b.ingredient) []

-- ---- entries

-- the box with a label
abbrev pub is_labelled : List ℕ → ReadBox → Bool
is_labelled label b = is_given b.boxed.label label

-- the first assertion box with a label
abbrev pub box_with : Reading → List ℕ → Option ReadBox
box_with r label = find (is_labelled label) r.boxes

-- an entry of a list has this label
abbrev pub lists_label : Manifest → List Ref → List ℕ → Bool
lists_label m entries label = list_any (λ (e : Ref). is_given (entry_label m e) label) entries

-- an assertion whose data lies elsewhere
abbrev pub is_cloud : Kind → Bool
is_cloud kinds.Cloud = true
is_cloud kind = false

-- the box is there with the digest of this entry
abbrev pub box_has_digest : (Alg → List ℕ → List ℕ) → Reading → Ref → Option ReadBox → Bool
box_has_digest hash r e b = has_contents hash r e (option_map (λ (x : ReadBox). x.boxed.contents) b)

-- an entry that lists this label, whose assertion has this URI; `before` are the entries before it
abbrev pub labelled_tests : (Alg → List ℕ → List ℕ) → Seen → List Ref → Ref → List ℕ → List ℕ
    → List Test
labelled_tests hash s before e label uri =
    test (lists_label s.own.manifest before label) code.ProfileAssertionUri (claim_uri s.own)
    ∷ test (is_cloud (label_kind label)) code.UnsupportedCloudData uri
    ∷ test (not (is_known s.own e.alg)) code.AlgorithmUnsupported uri
    ∷ test (s.is_redacted label && is_some (box_with s.own label)) code.AssertionNotRedacted uri
    ∷ test (not (s.is_redacted label) && is_none (box_with s.own label)) code.AssertionMissing uri
    ∷ test (not (s.is_redacted label) && not (box_has_digest hash s.own e (box_with s.own label)))
    code.AssertionHashedUriMismatch uri
    ∷ []

-- an entry after these
abbrev pub entry_after : (Alg → List ℕ → List ℕ) → Seen → List Ref → Ref → List Test
entry_after hash s before e =
    option_map_or
    (λ (label : List ℕ). labelled_tests hash s before e label
    (assertion_uri (label_in s.own) label))
    (entry_label s.own.manifest e) (test true code.ProfileAssertionUri (claim_uri s.own) ∷ [])

-- the entry at place `k`
abbrev pub entry_tests : (Alg → List ℕ → List ℕ) → Seen → ℕ → Ref → List Test
entry_tests hash s k e = entry_after hash s (take k (entries_in s.own)) e

-- ---- boxes that no entry lists

-- no entry lists the label, or there is none
abbrev pub is_undeclared : Reading → Option (List ℕ) → Bool
is_undeclared r label = not (passes_some (lists_label r.manifest (entries_in r)) label)

-- the rule on an assertion box of this manifest
abbrev pub box_test : Reading → ReadBox → Test
box_test r b =
    test (is_undeclared r b.boxed.label) code.AssertionUndeclared
    (assertion_box_uri r b.boxed.label)

-- ---- redactions

-- a list of actions
abbrev pub is_actions : Kind → Bool
is_actions kinds.Actions = true
is_actions kind = false

-- an ingredient of a version that is read, or of another
abbrev pub is_any_ingredient : Kind → Bool
is_any_ingredient kinds.Ingredient = true
is_any_ingredient kinds.IngredientOther = true
is_any_ingredient kind = false

-- a URI with this manifest, or with none, names a box of the manifest with this label
abbrev pub names_own : List ℕ → Option (List ℕ) → Bool
names_own label None = true
names_own label (Some given) = bytes_eq given label

-- a redaction of an assertion of this kind and this URI, by a URI with this manifest or with none
abbrev pub redacted_tests : Bool → Kind → List ℕ → List Test
redacted_tests is_own kind uri =
    test is_own code.AssertionSelfRedacted uri
    ∷ test (is_actions kind) code.AssertionActionRedacted uri
    ∷ test (is_hash kind) code.ProfileRedactionBinding uri
    ∷ test (is_any_ingredient kind) code.UnsupportedRedactIngredient uri
    ∷ []

-- a redaction whose URI has this manifest, or none, and this target
abbrev pub target_tests : List ℕ → List ℕ → Option (List ℕ) → PlainTarget → List Test
target_tests own claim manifest (assertion label) =
    redacted_tests (names_own own manifest) (label_kind label)
    (assertion_uri (unwrap_or manifest own) label)
target_tests own claim manifest target = test true code.ProfileRedactionUri claim ∷ []

-- a redaction by its URI, or by a text that is none
abbrev pub uri_tests : List ℕ → List ℕ → Option PlainUri → List Test
uri_tests own claim None = test true code.ProfileRedactionUri claim ∷ []
uri_tests own claim (Some u) = target_tests own claim u.manifest u.target

-- the redaction that this text is, in the claim with this URI of the manifest with this label
abbrev pub redaction_tests : List ℕ → List ℕ → List ℕ → List Test
redaction_tests own claim text = uri_tests own claim (uri_of text)

-- ---- bindings and parents

-- the labels that the entries list, in order
abbrev pub labels_in : Reading → List (List ℕ)
labels_in r = filter_map (entry_label r.manifest) (entries_in r)

-- the labels of its bindings of a kind that is known, in order
abbrev pub bindings_in : Reading → List (List ℕ)
bindings_in r = filter (λ (label : List ℕ). is_binding (label_kind label)) (labels_in r)

-- an entry lists a binding of another kind
abbrev pub has_other_hash : Reading → Bool
has_other_hash r = list_any (λ (label : List ℕ). is_other_hash (label_kind label)) (labels_in r)

-- the condition on a label that an entry of the active manifest lists
abbrev pub hash_kind_test : Seen → ℕ → List ℕ → Test
hash_kind_test s k label =
    test (s.is_active && is_other_hash (label_kind label)) code.UnsupportedHashKind
    (assertion_uri (label_in s.own) label)

-- the relationship of the ingredient from which a file was made
abbrev pub is_parent_word : Relationship → Bool
is_parent_word relationship.ParentOf = true
is_parent_word relationship.ComponentOf = false
is_parent_word relationship.InputTo = false

-- an ingredient with this relationship
abbrev pub is_parent : Option Ingredient → Bool
is_parent None = false
is_parent (Some g) = is_parent_word g.relationship

-- the boxes that are read as an ingredient from which this one was made
abbrev pub reads_parent : ReadBox → Bool
reads_parent b = is_parent (value_in b.ingredient)

-- the boxes of parents
abbrev pub parents_in : Reading → List ReadBox
parents_in r = filter reads_parent r.boxes

-- a manifest that is no update
abbrev pub standard_tests : Seen → List Test
standard_tests s =
    over_all (hash_kind_test s) 0 (labels_in s.own)
    ++
    (test (length (bindings_in s.own) == 0 && (s.is_active || not (has_other_hash s.own)))
    code.ClaimHardBindingsMissing (claim_uri s.own)
    ∷ test (nat_lt 1 (length (bindings_in s.own))) code.AssertionMultipleHardBindings
    (assertion_box_uri s.own (slice_get (bindings_in s.own) 1))
    ∷ test (nat_lt 1 (length (parents_in s.own))) code.ManifestMultipleParents (manifest_uri s.own)
    ∷ [])

-- exactly one box, and it reads as a parent
abbrev pub is_one_parent : List ReadBox → Bool
is_one_parent [] = false
is_one_parent (b ∷ []) = reads_parent b
is_one_parent (b ∷ c ∷ more) = false

-- the boxes of ingredients of the versions that are read
abbrev pub ingredients_in : Reading → List ReadBox
ingredients_in r = filter (λ (b : ReadBox). is_ingredient b.boxed) r.boxes

-- an update manifest
abbrev pub update_tests : Reading → List Test
update_tests r =
    test (list_any (λ (label : List ℕ). is_hash (label_kind label)) (labels_in r))
    code.ManifestUpdateInvalid (manifest_uri r)
    ∷ test (not (is_one_parent (ingredients_in r))) code.ManifestUpdateWrongParents (manifest_uri r)
    ∷ []

-- the rule on bindings and parents
abbrev pub binding_tests : Seen → List Test
binding_tests s = if s.own.manifest.is_update then update_tests s.own else standard_tests s

-- ---- ingredients whether or not they name a child

-- where the manifest that an ingredient names isn't in the store, or doesn't stand earlier
abbrev pub order_tests : List ℕ → Standing → List Test
order_tests uri seen.missing = test true code.IngredientManifestMissing uri ∷ []
order_tests uri seen.later = test true code.UnsupportedIngredientOrder uri ∷ []
order_tests uri standing = []

-- the item of a box of a version that is read; how a manifest stands is told by its label
abbrev pub parsed_tests : (List ℕ → Standing) → List ℕ → Parsed Ingredient → List Test
parsed_tests standing uri NoItem = test true code.AssertionCborInvalid uri ∷ []
parsed_tests standing uri NoForm = test true code.ProfileIngredientForm uri ∷ []
parsed_tests standing uri (Value g) =
    option_map_or (λ (label : List ℕ). order_tests uri (standing label)) (named_by (Some g)) []

-- the rule on an assertion box of this kind
abbrev pub kind_tests : (List ℕ → Standing) → List ℕ → Parsed Ingredient → Kind → List Test
kind_tests standing uri p kinds.IngredientOther =
    test true code.UnsupportedIngredientVersion uri ∷ []
kind_tests standing uri p kinds.Ingredient = parsed_tests standing uri p
kind_tests standing uri p kind = []

-- the rule on an assertion box with a label
abbrev pub form_tests : Seen → ReadBox → List Test
form_tests s b =
    option_map_or (λ (label : List ℕ). kind_tests s.standing (assertion_uri (label_in s.own) label)
    b.ingredient (label_kind label)) b.boxed.label []

-- ---- all of them

-- the rules after the verdict
abbrev pub rest_tests : (Alg → List ℕ → List ℕ) → Seen → List Test
rest_tests hash s =
    each (λ k b. ingredient_tests hash s b) 0 s.own.boxes
    ++ (each (entry_tests hash s) 0 (entries_in s.own)
    ++ (over_all (λ k b. box_test s.own b) 0 s.own.boxes
    ++
    (each (λ k text. redaction_tests (label_in s.own) (claim_uri s.own) text) 0
    (redactions_in s.own)
    ++ (binding_tests s
    ++ each (λ k b. form_tests s b) 0 s.own.boxes))))

-- the rules of a manifest, under the verdict on its question
abbrev pub manifest_tests : (Alg → List ℕ → List ℕ) → Option Verdict → Seen → List Test
manifest_tests hash v s = claim_tests s.own ++ (verdict_tests s.own v ++ rest_tests hash s)

-- the rules of a manifest apart from those on the verdict
abbrev pub unjudged_tests : (Alg → List ℕ → List ℕ) → Seen → List Test
unjudged_tests hash s = claim_tests s.own ++ rest_tests hash s
