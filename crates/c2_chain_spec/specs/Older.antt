-- A manifest as a later one leaves it: no longer the active one, and without boxes that are redacted.
use Rattle.std.specs.Prelude.{◌≡◌, ℕ, Bool, true, false, not, ◌||◌, List, filter, Some, None, is_some, ◌⊎◌}
use Rattle.std.specs.List.{AllByRecursion}
use Rattle.c2_spec.specs.C2pa.Manifest.{Superbox}
use Rattle.c2_spec.specs.declared.assertion.Ingredient.{Ingredient}
use Rattle.c2_rules.specs.Chains.{named_in, passes_some}
use Rattle.c2_rules.specs.Ingredients.{is_ingredient}
use Rattle.c2_rules.specs.Readings.{ReadBox, Reading, entries_in, value_in}
use Rattle.c2_rules.specs.Rules.{lists_label}
use Rattle.c2_rules.specs.Seen.{Seen, Standing, missing, later, touched, whole}

-- a box whose label isn't one of those that are taken out
abbrev pub is_kept : (List ℕ → Bool) → ReadBox → Bool
is_kept out b = not (passes_some out b.boxed.label)

-- the manifest with other contents, and with the assertion boxes that are kept
abbrev pub thinned : (List ℕ → Bool) → List ℕ → List Superbox → Reading → Reading
thinned out contents assertions r = record {
  manifest = record {
    label = r.manifest.label;
    contents = contents;
    is_update = r.manifest.is_update;
    claims = r.manifest.claims;
    signature = r.manifest.signature;
    assertions = assertions;
  };
  claim = r.claim;
  message = r.message;
  boxes = filter (is_kept out) r.boxes;
}

-- the ingredient that a box is read as has a reference to a signature
abbrev pub has_signature : ReadBox → Bool
has_signature b = passes_some (λ (g : Ingredient). is_some g.signature) (value_in b.ingredient)

-- how a manifest stands that an ingredient names, before and after: as it stood; or it was whole and is touched, and the
-- ingredient, `signed`, refers to its signature
abbrev pub Alike : Bool → Standing → Standing → Type 0
Alike signed missing t = (t ≡ missing) ⊎ (t ≡ later)
Alike signed later t = t ≡ later
Alike signed (touched c) t = t ≡ touched c
Alike signed (whole c own) t = (t ≡ whole c own) ⊎ ((t ≡ touched c) × (signed ≡ true))

-- A box before and after: what it names stands alike; and where it is taken out it is none of an ingredient.
pub record StaysAlike (out : List ℕ → Bool) (before after : List ℕ → Standing) (b : ReadBox) : Type 0 where
  pub alike : (label : List ℕ) → named_in b ≡ Some label
      → Alike (has_signature b) (before label) (after label)
  pub no_kind : is_kept out b ≡ false → is_ingredient b.boxed ≡ false
  pub silent : is_kept out b ≡ false → value_in b.ingredient ≡ None

-- A manifest as it was seen and as it is seen now: it isn't the active one; of the labels that its claim lists those that are taken
-- out are redacted beside those that were; its boxes with these labels are gone; and what is left stands alike.
pub record Loses (out : List ℕ → Bool) (was now : Seen) : Type 0 where
  pub contents : List ℕ
  pub assertions : List Superbox
  pub own : now.own ≡ thinned out contents assertions was.own
  pub active : now.is_active ≡ false
  pub redacted : (label : List ℕ) → lists_label was.own.manifest (entries_in was.own) label ≡ true
      → now.is_redacted label ≡ (out label || was.is_redacted label)
  pub boxes : AllByRecursion (StaysAlike out was.standing now.standing) was.own.boxes

-- what the rules see of a manifest that is no longer the active one
abbrev pub inactive : Seen → Seen
inactive s = record {
  own = s.own;
  is_active = false;
  is_redacted = s.is_redacted;
  standing = s.standing;
}
