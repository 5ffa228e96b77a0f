-- The rules of one manifest are the same where two manifests are seen alike.
use Rattle.std.proofs.Common.{◌≡◌, ℕ, ◌+◌, Bool, List, [], ◌∷◌, ◌++◌, Option, Some, None, Contains, option_and_then, refl, sym, ap, ap₂, ◌∙◌}
use Rattle.std.proofs.Math.Path.{fun_ext}
use Rattle.std.specs.Option.{option_map_or}
use Rattle.c2_spec.specs.C2pa.Assertion.{manifest_named}
use Rattle.c2_spec.specs.C2pa.Manifest.{Superbox}
use Rattle.c2_spec.specs.C2pa.Sign1.{SignParts}
use Rattle.c2_spec.specs.declared.assertion.Ingredient.{Ingredient}
use Rattle.c2_spec.specs.declared.assertion.Kind.{Kind}
use Rattle.c2_spec.specs.declared.assertion.Kind.TheVariants as kinds
use Rattle.c2_spec.specs.declared.cbor.Ref.{Ref}
use Rattle.c2_spec.specs.declared.claim.Claim.{Claim}
use Rattle.c2_spec.specs.declared.digest.Alg.{Alg}
use Rattle.c2_spec.specs.declared.panel.Verdict.{Verdict}
use Rattle.c2_rules.specs.Chains.{label_in, named_by, named_in}
use Rattle.c2_rules.specs.Ingredients.{assertion_uri}
use Rattle.c2_rules.specs.Readings.{ReadBox, Reading, value_in, entries_in, redactions_in, question_in}
use Rattle.c2_rules.specs.Rules.{
  label_kind,
  claim_uri,
  assertion_box_uri,
  verdict_tests,
  entry_tests,
  box_test,
  redaction_tests,
  binding_tests,
  standing_tests,
  reference_tests,
  child_tests,
  ingredient_tests,
  order_tests,
  parsed_tests,
  kind_tests,
  form_tests,
  claim_tests,
  rest_tests,
  manifest_tests,
  unjudged_tests,
}
use Rattle.c2_rules.specs.Seen.{Seen, Standing, SameSeen}
use Rattle.c2_rules.specs.Tests.{Test, each, over_all}
use Rattle.c2_rules.specs.declared.parsed.Parsed.{Parsed}
use Rattle.c2_rules.specs.declared.parsed.Parsed.TheVariants.{NoItem, NoForm, Value}
use Rattle.c2_rules.proofs.ListLemmas.{contains_head, contains_tail}

-- ---- thing by thing

-- conditions that agree on each member of a list agree on the list
pub each_same : {X : Type 0} (f g : ℕ → X → List Test) (k : ℕ) (xs : List X)
    → ((j : ℕ) (x : X) → Contains xs x → f j x ≡ g j x) → each f k xs ≡ each g k xs
each_same f g k [] same = refl
each_same f g k (x ∷ xs) same =
    ap₂ (λ (a b : List Test). a ++ b) (same k x (contains_head x xs))
    (each_same f g (k + 1) xs (λ j y c. same j y (contains_tail x y xs c)))

-- ---- by how the manifests stand that an ingredient names

-- what is asked of a label that may be absent agrees where it agrees on the label that is there
by_label : {A : Type 0} (f g : List ℕ → A) (o : Option (List ℕ)) (d : A)
    → ((label : List ℕ) → o ≡ Some label → f label ≡ g label) → option_map_or f o d ≡ option_map_or g o d
by_label f g None d same = refl
by_label f g (Some label) d same = same label refl

-- what is compared of a box by the standing of what it names
by_manifest : (hash : Alg → List ℕ → List ℕ) (a b : Seen) (uri : List ℕ) (sign m : Option Ref) → a.own ≡ b.own
    → ((label : List ℕ) → option_and_then (λ (ref : Ref). manifest_named ref.url) m ≡ Some label → a.standing label ≡ b.standing label)
    → option_map_or (reference_tests hash a uri sign) m [] ≡ option_map_or (reference_tests hash b uri sign) m []
by_manifest hash a b uri sign None own same = refl
by_manifest hash a b uri sign (Some m) own same =
    by_label (λ (label : List ℕ). standing_tests hash a.own uri m sign (a.standing label))
    (λ (label : List ℕ). standing_tests hash b.own uri m sign (b.standing label)) (manifest_named m.url) []
    (λ label e. ap₂ (λ (r : Reading) (x : Standing). standing_tests hash r uri m sign x) own (same label e))

-- the conditions on what an ingredient names agree where the manifests that it names stand alike
by_ingredient : (hash : Alg → List ℕ → List ℕ) (a b : Seen) (uri : List ℕ) (g : Option Ingredient) → a.own ≡ b.own
    → ((label : List ℕ) → named_by g ≡ Some label → a.standing label ≡ b.standing label)
    → option_map_or (child_tests hash a uri) g [] ≡ option_map_or (child_tests hash b uri) g []
by_ingredient hash a b uri None own same = refl
by_ingredient hash a b uri (Some g) own same = by_manifest hash a b uri g.signature g.manifest own same

-- the conditions on a box that may be no ingredient agree where the manifests that it names stand alike
box_same : (hash : Alg → List ℕ → List ℕ) (a b : Seen) (x : ReadBox) → a.own ≡ b.own
    → ((label : List ℕ) → named_in x ≡ Some label → a.standing label ≡ b.standing label)
    → ingredient_tests hash a x ≡ ingredient_tests hash b x
box_same hash a b x own same =
    by_ingredient hash a b (assertion_box_uri a.own x.boxed.label) (value_in x.ingredient) own same
    ∙ ap
    (λ (r : Reading). option_map_or (child_tests hash b (assertion_box_uri r x.boxed.label)) (value_in x.ingredient) [])
    own

-- the conditions on the order of ingredients agree where what they name stands alike
parsed_same : (f g : List ℕ → Standing) (uri : List ℕ) (p : Parsed Ingredient)
    → ((label : List ℕ) → named_by (value_in p) ≡ Some label → f label ≡ g label)
    → parsed_tests f uri p ≡ parsed_tests g uri p
parsed_same f g uri NoItem same = refl
parsed_same f g uri NoForm same = refl
parsed_same f g uri (Value i) same =
    by_label (λ (label : List ℕ). order_tests uri (f label)) (λ (label : List ℕ). order_tests uri (g label))
    (named_by (Some i)) [] (λ label e. ap (order_tests uri) (same label e))

-- the conditions by the kind of an assertion agree where what it names stands alike
kind_same : (f g : List ℕ → Standing) (uri : List ℕ) (p : Parsed Ingredient) (k : Kind)
    → ((label : List ℕ) → named_by (value_in p) ≡ Some label → f label ≡ g label)
    → kind_tests f uri p k ≡ kind_tests g uri p k
kind_same f g uri p kinds.DataHash same = refl
kind_same f g uri p kinds.BmffHash same = refl
kind_same f g uri p kinds.OtherHash same = refl
kind_same f g uri p kinds.Ingredient same = parsed_same f g uri p same
kind_same f g uri p kinds.IngredientOther same = refl
kind_same f g uri p kinds.Actions same = refl
kind_same f g uri p kinds.Cloud same = refl
kind_same f g uri p kinds.Ordinary same = refl

-- the conditions on a box's form agree where what it names stands alike
form_same : (a b : Seen) (x : ReadBox) → label_in a.own ≡ label_in b.own
    → ((label : List ℕ) → named_in x ≡ Some label → a.standing label ≡ b.standing label)
    → form_tests a x ≡ form_tests b x
form_same a b x own same =
    by_label
    (λ (label : List ℕ). kind_tests a.standing (assertion_uri (label_in a.own) label) x.ingredient (label_kind label))
    (λ (label : List ℕ). kind_tests b.standing (assertion_uri (label_in b.own) label) x.ingredient (label_kind label))
    x.boxed.label []
    (λ label e. kind_same a.standing b.standing (assertion_uri (label_in a.own) label) x.ingredient (label_kind label) same ∙ ap (λ (l : List ℕ). kind_tests b.standing (assertion_uri l label) x.ingredient (label_kind label)) own)

-- ---- all rules, where what was read of the manifests themselves is equal

-- six lists of conditions one after the other
abbrev joined_tests : List Test → List Test → List Test → List Test → List Test → List Test → List Test
joined_tests a b c d e f = a ++ (b ++ (c ++ (d ++ (e ++ f))))

-- the conditions after the verdict agree where what the rules see of two manifests is equal
rest_same : (hash : Alg → List ℕ → List ℕ) (a b : Seen) → a.own ≡ b.own → a.is_active ≡ b.is_active
    → a.is_redacted ≡ b.is_redacted
    → ((x : ReadBox) (label : List ℕ) → Contains a.own.boxes x → named_in x ≡ Some label → a.standing label ≡ b.standing label)
    → rest_tests hash a ≡ rest_tests hash b
rest_same hash a b own active redacted named =
    let sees : Seen → Seen =
    λ (s : Seen). record { own = s.own; is_active = s.is_active; is_redacted = s.is_redacted; standing = b.standing } in
    let first : each (λ k x. ingredient_tests hash a x) 0 a.own.boxes ≡ each (λ k x. ingredient_tests hash (sees a) x) 0 a.own.boxes =
    each_same (λ k x. ingredient_tests hash a x) (λ k x. ingredient_tests hash (sees a) x) 0 a.own.boxes (λ j x c. box_same hash a (sees a) x refl (λ label e. named x label c e)) in
    let last : each (λ k x. form_tests a x) 0 a.own.boxes ≡ each (λ k x. form_tests (sees a) x) 0 a.own.boxes =
    each_same (λ k x. form_tests a x) (λ k x. form_tests (sees a) x) 0 a.own.boxes (λ j x c. form_same a (sees a) x refl (λ label e. named x label c e)) in
    ap₂
    (λ (x y : List Test). joined_tests x (each (entry_tests hash a) 0 (entries_in a.own)) (over_all (λ k b. box_test a.own b) 0 a.own.boxes) (each (λ k text. redaction_tests (label_in a.own) (claim_uri a.own) text) 0 (redactions_in a.own)) (binding_tests a) y)
    first last
    ∙ ap₂
    (λ (r : Reading) (x : Bool). rest_tests hash (record { own = r; is_active = x; is_redacted = a.is_redacted; standing = b.standing }))
    own active
    ∙ ap
    (λ (f : List ℕ → Bool). rest_tests hash (record { own = b.own; is_active = b.is_active; is_redacted = f; standing = b.standing }))
    redacted

-- ---- what was read, less the contents

-- what was read of a manifest without its own contents
abbrev bare : Option (List ℕ) → Bool → List Superbox → Option Superbox → Parsed Claim → Option SignParts → List ReadBox
    → Reading
bare label is_update claims signature claim message boxes =
    record
    { manifest = record { label = label; contents = []; is_update = is_update; claims = claims; signature = signature; assertions = [] }; claim = claim; message = message; boxes = boxes }

-- what was read of a manifest, without its own contents
abbrev bare_of : Reading → Reading
bare_of r = bare r.manifest.label r.manifest.is_update r.manifest.claims r.manifest.signature r.claim r.message r.boxes

-- what the rules see of a manifest, without its own contents
abbrev bare_seen : Seen → Seen
bare_seen s =
    record { own = bare_of s.own; is_active = s.is_active; is_redacted = s.is_redacted; standing = s.standing }

-- manifests that are seen alike are equal without their contents
same_bare : (a b : Seen) → SameSeen a b → bare_of a.own ≡ bare_of b.own
same_bare a b h =
    ap
    (λ (x : Option (List ℕ)). bare x a.own.manifest.is_update a.own.manifest.claims a.own.manifest.signature a.own.claim a.own.message a.own.boxes)
    h.label
    ∙ ap
    (λ (x : Bool). bare b.own.manifest.label x a.own.manifest.claims a.own.manifest.signature a.own.claim a.own.message a.own.boxes)
    h.is_update
    ∙ ap
    (λ (x : List Superbox). bare b.own.manifest.label b.own.manifest.is_update x a.own.manifest.signature a.own.claim a.own.message a.own.boxes)
    h.claims
    ∙ ap
    (λ (x : Option Superbox). bare b.own.manifest.label b.own.manifest.is_update b.own.manifest.claims x a.own.claim a.own.message a.own.boxes)
    h.signature
    ∙ ap
    (λ (x : Parsed Claim). bare b.own.manifest.label b.own.manifest.is_update b.own.manifest.claims b.own.manifest.signature x a.own.message a.own.boxes)
    h.claim
    ∙ ap
    (λ (x : Option SignParts). bare b.own.manifest.label b.own.manifest.is_update b.own.manifest.claims b.own.manifest.signature b.own.claim x a.own.boxes)
    h.message
    ∙ ap
    (λ (x : List ReadBox). bare b.own.manifest.label b.own.manifest.is_update b.own.manifest.claims b.own.manifest.signature b.own.claim b.own.message x)
    h.boxes

-- no rule looks at the contents
claim_bare : (r : Reading) → claim_tests r ≡ claim_tests (bare_of r)
claim_bare r = refl

-- the condition on the verdict doesn't look at the contents
verdict_bare : (r : Reading) (v : Option Verdict) → verdict_tests r v ≡ verdict_tests (bare_of r) v
verdict_bare r None = refl
verdict_bare r (Some v) = refl

-- the conditions after the verdict don't look at the contents
rest_bare : (hash : Alg → List ℕ → List ℕ) (s : Seen) → rest_tests hash s ≡ rest_tests hash (bare_seen s)
rest_bare hash s = refl

-- the conditions after the verdict are equal for manifests that are seen alike
pub rest_alike : (hash : Alg → List ℕ → List ℕ) (a b : Seen) → SameSeen a b → rest_tests hash a ≡ rest_tests hash b
rest_alike hash a b h =
    rest_bare hash a
    ∙ rest_same hash (bare_seen a) (bare_seen b) (same_bare a b h) h.active (fun_ext h.redacted) h.named
    ∙ sym (rest_bare hash b)

-- the conditions on claims are equal for manifests that are seen alike
pub claim_alike : (a b : Seen) → SameSeen a b → claim_tests a.own ≡ claim_tests b.own
claim_alike a b h = claim_bare a.own ∙ ap claim_tests (same_bare a b h) ∙ sym (claim_bare b.own)

-- all conditions of a manifest are equal for manifests that are seen alike, under one verdict
pub tests_alike : (hash : Alg → List ℕ → List ℕ) (v : Option Verdict) (a b : Seen) → SameSeen a b
    → manifest_tests hash v a ≡ manifest_tests hash v b
tests_alike hash v a b h =
    ap₂ (λ (x y : List Test). x ++ (verdict_tests a.own v ++ y)) (claim_alike a b h) (rest_alike hash a b h)
    ∙ ap (λ (ts : List Test). claim_tests b.own ++ (ts ++ rest_tests hash b))
    (verdict_bare a.own v ∙ ap (λ (r : Reading). verdict_tests r v) (same_bare a b h) ∙ sym (verdict_bare b.own v))

-- all conditions but the one on the verdict are equal for manifests that are seen alike
pub unjudged_alike : (hash : Alg → List ℕ → List ℕ) (a b : Seen) → SameSeen a b
    → unjudged_tests hash a ≡ unjudged_tests hash b
unjudged_alike hash a b h = ap₂ (λ (x y : List Test). x ++ y) (claim_alike a b h) (rest_alike hash a b h)

-- manifests that are seen alike ask the same question
pub asked_alike : (a b : Seen) → SameSeen a b → question_in a.own ≡ question_in b.own
asked_alike a b h = ap question_in (same_bare a b h)
