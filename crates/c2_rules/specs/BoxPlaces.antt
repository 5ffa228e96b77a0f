-- The assertion boxes of a store by their indices in the box tree: which are read as ingredients, and which child they name
-- (C2PA Technical Specification 2.x, "Ingredient").
use Rattle.std.specs.Prelude.{ℕ, ◌+◌, ◌==◌, List, [], ◌∷◌, Some, None, slice_get, position, option_and_then}
use Rattle.std.specs.declared.option.Option.{Option}
use Rattle.c2_spec.specs.declared.assertion.Ingredient.{Ingredient}
use Rattle.c2_spec.specs.declared.store.ManifestBoxes.{ManifestBoxes}
use Rattle.c2_rules.specs.Chains.{boxes_at, child_of}
use Rattle.c2_rules.specs.Claims.{Chained}
use Rattle.c2_rules.specs.Readings.{ReadBox, Reading, value_in}

-- an assertion box: the place of its manifest, and its own among the assertion boxes of that manifest
pub record BoxPlace : Type 0 where
  pub manifest : ℕ
  pub box : ℕ

-- in this manifest where it has a place there, else where it is found in the others
abbrev pub found_or : ℕ → Option ℕ → Option BoxPlace → Option BoxPlace
found_or i None others = others
found_or i (Some k) others = Some (record { manifest = i; box = k })

-- the place of the assertion box with this index in the tree, where the first of these manifests has place `i`
abbrev pub box_place_from : ℕ → List ManifestBoxes → ℕ → Option BoxPlace
box_place_from i [] at = None
box_place_from i (m ∷ ms) at =
    found_or i (position (λ (j : ℕ). j == at) m.assertions) (box_place_from (i + 1) ms at)

-- the place of the assertion box with this index in the tree, or none where it is no assertion box of a manifest
abbrev pub box_place : List ManifestBoxes → ℕ → Option BoxPlace
box_place ms at = box_place_from 0 ms at

-- the box at this place
abbrev pub box_at_place : List Reading → BoxPlace → Option ReadBox
box_at_place rs p = slice_get (boxes_at rs p.manifest) p.box

-- the ingredient that the assertion box with this index is read as
abbrev pub ingredient_at : Chained → ℕ → Option Ingredient
ingredient_at s at =
    option_and_then
    (λ (p : BoxPlace). option_and_then (λ (b : ReadBox). value_in b.ingredient)
    (box_at_place s.readings p))
    (box_place s.boxes at)

-- the place of the child that the assertion box with this index names
abbrev pub child_at : Chained → ℕ → Option ℕ
child_at s at =
    option_and_then (λ (p : BoxPlace). option_and_then (child_of s.readings p.manifest)
    (box_at_place s.readings p)) (box_place s.boxes at)
