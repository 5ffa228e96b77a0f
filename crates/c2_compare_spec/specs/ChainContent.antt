-- What an active claim vouches for: the chain content of its store, which takes together its own boxes and
-- what stands in the manifests below it, and the covered text of its file (C2PA Technical Specification 2.x,
-- "Claims", "Ingredient" and "Hard bindings"; that all this is one map and one text is this project's own
-- choice).
--
-- The map is given by what stands under its keys: claim bytes under the key of a manifest, contents of boxes
-- under that and the label of an assertion. Two maps are equal where the same stands under the same keys.
use Rattle.std.specs.Prelude.{◌≡◌, ◌↔◌, ℕ, true, false, List, [], Option, Some, slice_get, Contains, option_and_then, if◌then◌else◌}
use Rattle.std.specs.Option.{option_map_or}
use Rattle.c2_spec.specs.C2pa.Manifest.{claim_bytes}
use Rattle.c2_spec.specs.declared.cbor.Ref.{Ref}
use Rattle.c2_rules.specs.Binding.{Binding, binding_value}
use Rattle.c2_rules.specs.Chains.{label_in, is_active, is_reached, is_redacted, entry_label}
use Rattle.c2_rules.specs.CheckList.{StoreReading, active_in}
use Rattle.c2_rules.specs.Readings.{ReadBox, Reading, entries_in}
use Rattle.c2_rules.specs.Rules.{box_with}

-- the claim bytes of a manifest: the item of its claim box ("Claims")
abbrev pub claim_bytes_of : Reading → Option (List ℕ)
claim_bytes_of r = claim_bytes r.manifest.claims

-- the active claim of a store, as bytes: that of the last manifest ("Manifest store")
abbrev pub active_claim : List Reading → Option (List ℕ)
active_claim rs = option_and_then claim_bytes_of (active_in rs)

-- the text that the active manifest's binding covers; empty where there is none ("Hard bindings")
abbrev pub covered_text : StoreReading → List ℕ
covered_text s = option_map_or (λ (b : Binding). b.text) (binding_value s.binding) []

-- ---- the chain content

-- the key of the manifest at a place: its label. But two files may label their active manifests
-- differently, so these have the empty key (this project's own choice)
abbrev pub key_at : List Reading → ℕ → Reading → List ℕ
key_at rs place r = if is_active rs place then [] else label_in r

-- A reached manifest stands at this place and has this key ("Ingredient").
pub record HasKey (rs : List Reading) (key : List ℕ) (place : ℕ) (r : Reading) : Type 0 where
  pub at_place : slice_get rs place ≡ Some r
  pub reached : is_reached rs place ≡ true
  pub is : key_at rs place r ≡ key

-- The chain content has these claim bytes under this key.
pub record GivesClaim (rs : List Reading) (key bytes : List ℕ) : Type 0 where
  pub place : ℕ
  pub manifest : Reading
  pub has_key : HasKey rs key place manifest
  pub is : claim_bytes_of manifest ≡ Some bytes

-- The chain content has these contents under this key and the label of an assertion: an entry of the
-- manifest's claim lists the label, no redaction takes it away there, and a box with this label has these
-- contents ("Assertions", "Redaction of assertions").
pub record GivesBox (rs : List Reading) (key label contents : List ℕ) : Type 0 where
  pub place : ℕ
  pub manifest : Reading
  pub has_key : HasKey rs key place manifest
  pub entry : Ref
  pub lists : Contains (entries_in manifest) entry
  pub is_label : entry_label manifest.manifest entry ≡ Some label
  pub unredacted : is_redacted rs place label ≡ false
  pub box : ReadBox
  pub has_box : box_with manifest label ≡ Some box
  pub is : box.boxed.contents ≡ contents

-- Two stores have equal chain contents.
pub record SameContent (rs ss : List Reading) : Type 0 where
  pub claims : (key bytes : List ℕ) → GivesClaim rs key bytes ↔ GivesClaim ss key bytes
  pub boxes : (key label contents : List ℕ) → GivesBox rs key label contents
      ↔ GivesBox ss key label contents
