-- The child that one assertion box names, and how a manifest stands that an ingredient names, as relations (C2PA Technical Specification
-- 2.x, "Ingredient" and "Redaction of assertions").
use Rattle.std.specs.Prelude.{◌≡◌, ℕ, ◌<◌, ◌≤◌, List, Some, slice_get, Contains}
use Rattle.c2_spec.specs.declared.store.ManifestBoxes.{ManifestBoxes}
use Rattle.c2_rules.specs.Chains.{IsTouched, label_in, named_in}
use Rattle.c2_rules.specs.Readings.{ReadBox, Reading}
use Rattle.c2_rules.specs.Seen.{Standing, missing, later, touched, whole, signature_contents}

-- the manifest at this place
abbrev pub IsAt : List Reading → ℕ → Reading → Type 0
IsAt rs m r = slice_get rs m ≡ Some r

-- this box of the manifest at `n` names the one at `m`, which stands earlier
pub record NamesChild (rs : List Reading) (n : ℕ) (box : ReadBox) (m : ℕ) : Type 0 where
  pub earlier : m < n
  pub child : Reading
  pub is_child : IsAt rs m child
  pub names : named_in box ≡ Some (label_in child)

-- the manifest at this place has an assertion box with this index in the box tree
abbrev pub HasBoxAt : List ManifestBoxes → ℕ → ℕ → Type 0
HasBoxAt ms n index = (m : ManifestBoxes) × (slice_get ms n ≡ Some m) × Contains m.assertions index

-- How the manifest with this label stands to the one at place `i`: no manifest has the label; the one that has it doesn't stand earlier; or
-- it does, and is a child that is touched, or one that isn't, whose own contents are then seen.
pub data Stands (rs : List Reading) (i : ℕ) (label : List ℕ) : Standing → Type 0 where
  nowhere : ((m : ℕ) (r : Reading) → IsAt rs m r → label_in r ≡ label → ⊥)
      → Stands rs i label missing
  not_earlier : (m : ℕ) (r : Reading) → IsAt rs m r → label_in r ≡ label → i ≤ m
      → Stands rs i label later
  as_touched : (m : ℕ) (r : Reading) → IsAt rs m r → label_in r ≡ label → m < i → IsTouched rs m
      → Stands rs i label (touched (signature_contents r))
  as_whole : (m : ℕ) (r : Reading) → IsAt rs m r → label_in r ≡ label → m < i
      → (IsTouched rs m → ⊥) → Stands rs i label (whole (signature_contents r) r.manifest.contents)
