-- Worked redactions, computed: of the assertions of a store of two manifests, of which the second has the first as an ingredient.
use Rattle.std.proofs.Common.{◌≡◌, ℕ, true, false, List, [], ◌∷◌, ◌++◌, Option, Some, None, codes, refl}
use Rattle.c2_spec.specs.declared.claim.ClaimVersion.TheVariants.{V2}
use Rattle.c2_spec.specs.declared.assertion.Relationship.TheVariants.{ComponentOf}
use Rattle.c2_spec.specs.declared.cbor.Ref.{Ref}
use Rattle.c2_rules.specs.Readings.{ReadBox, Reading}
use Rattle.c2_rules.specs.Rules.{label_kind}
use Rattle.c2_rules.specs.declared.code.Code.{Code}
use Rattle.c2_rules.specs.declared.code.Code.TheVariants.{AssertionActionRedacted, AssertionSelfRedacted, ProfileIngredientSignature, ProfileRedactionBinding, ProfileRedactionTarget, ProfileRedactionUri, UnsupportedRedactIngredient}
use Rattle.c2_rules.specs.declared.parsed.Parsed.{Parsed}
use Rattle.c2_rules.specs.declared.parsed.Parsed.TheVariants.{NoItem, Value}
use Rattle.c2_spec.specs.declared.assertion.Ingredient.{Ingredient}
use Rattle.c2_new_file_spec.specs.Refusing.{has_manifest, redaction_refusal}
use Rattle.c2_new_file_spec.specs.declared.refused.RefusedRedaction.{RefusedRedaction}

-- an entry of the own manifest
abbrev entry : List ℕ → Ref
entry label = record { url = codes "self#jumbf=c2pa.assertions/" ++ label; hash = []; alg = None }

-- an assertion box
abbrev box : List ℕ → Parsed Ingredient → ReadBox
box label ingredient =
    record { boxed = record { label = Some label; contents = []; item = None }; ingredient = ingredient }

-- a manifest whose claim has these entries, with these boxes
abbrev manifest : List ℕ → List Ref → List ReadBox → Reading
manifest label entries boxes = record {
  manifest =
      record { label = Some label; contents = []; is_update = false; claims = []; signature = None; assertions = [] };
  claim =
      Value
      (record { version = V2; signature = []; instance = None; alg = None; created = entries; gathered = []; redacted = [] });
  message = None;
  boxes = boxes;
}

-- the manifest D, which lists two notes, of which one has its box
abbrev d : Reading
d = manifest (codes "D") (entry (codes "one") ∷ entry (codes "two") ∷ []) (box (codes "one") NoItem ∷ [])

-- D as an ingredient, with a reference to its signature or without
abbrev names_d : Option Ref → ReadBox
names_d signature =
    box (codes "c2pa.ingredient.v3")
    (Value (record { relationship = ComponentOf; manifest = Some (record { url = codes "self#jumbf=/c2pa/D"; hash = []; alg = None }); signature = signature }))

-- the signature of D
abbrev signature : Option Ref
signature = Some (record { url = codes "self#jumbf=/c2pa/D/c2pa.signature"; hash = []; alg = None })

-- D, and A over it
abbrev store : Option Ref → List Reading
store signature = d ∷ manifest (codes "A") [] (names_d signature ∷ []) ∷ []

-- the URI of an assertion
abbrev uri : List ℕ → List ℕ → List ℕ
uri label assertion = codes "self#jumbf=/c2pa/" ++ label ++ codes "/c2pa.assertions/" ++ assertion

-- what is refused first in the new manifest N
abbrev refused : List Reading → List (List ℕ) → Option RefusedRedaction
refused rs redacts = redaction_refusal (codes "N") rs redacts

-- this text, with this code
abbrev with_code : List ℕ → Code → Option RefusedRedaction
with_code text code = Some (record { text = text; code = code })

-- D's note may be redacted once
once : refused (store signature) (uri (codes "D") (codes "one") ∷ []) ≡ None
unfolding label_kind
once = refl

-- D's note may not be redacted twice
twice : refused (store signature) (uri (codes "D") (codes "one") ∷ uri (codes "D") (codes "one") ∷ []) ≡ with_code (uri (codes "D") (codes "one")) ProfileRedactionTarget
unfolding label_kind
twice = refl

-- D's note may not be redacted where the box is gone
gone : refused (store signature) (uri (codes "D") (codes "two") ∷ []) ≡ with_code (uri (codes "D") (codes "two")) ProfileRedactionTarget
unfolding label_kind
gone = refl

-- D's note may not be redacted where an ingredient doesn't name D's signature
unsigned : refused (store None) (uri (codes "D") (codes "one") ∷ []) ≡ with_code (uri (codes "D") (codes "one")) ProfileIngredientSignature
unfolding label_kind
unsigned = refl

-- D's note may not be redacted where D isn't reached
unreached : refused (d ∷ manifest (codes "A") [] [] ∷ []) (uri (codes "D") (codes "one") ∷ []) ≡ with_code (uri (codes "D") (codes "one")) ProfileRedactionTarget
unfolding label_kind
unreached = refl

-- what the rules refuse comes first
not_uri : refused (store None) (codes "D" ∷ []) ≡ with_code (codes "D") ProfileRedactionUri
unfolding label_kind
not_uri = refl

-- an assertion of the new manifest itself
own : refused (store None) (uri (codes "N") (codes "one") ∷ []) ≡ with_code (uri (codes "N") (codes "one")) AssertionSelfRedacted
unfolding label_kind
own = refl

-- actions
actions : refused (store None) (uri (codes "D") (codes "c2pa.actions.v2") ∷ []) ≡ with_code (uri (codes "D") (codes "c2pa.actions.v2")) AssertionActionRedacted
unfolding label_kind
actions = refl

-- a binding
binding : refused (store None) (uri (codes "D") (codes "c2pa.hash.data") ∷ []) ≡ with_code (uri (codes "D") (codes "c2pa.hash.data")) ProfileRedactionBinding
unfolding label_kind
binding = refl

-- an ingredient
ingredient : refused (store None) (uri (codes "A") (codes "c2pa.ingredient.v3") ∷ []) ≡ with_code (uri (codes "A") (codes "c2pa.ingredient.v3")) UnsupportedRedactIngredient
unfolding label_kind
ingredient = refl

-- without a store all are refused
no_store : refused [] (uri (codes "m") (codes "a") ∷ []) ≡ with_code (uri (codes "m") (codes "a")) ProfileRedactionTarget
unfolding label_kind
no_store = refl

-- labels
taken : has_manifest (store None) (codes "D") ≡ true
taken = refl

-- a label that none has
free : has_manifest (store None) (codes "N") ≡ false
free = refl
