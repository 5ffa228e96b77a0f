-- For private clauses: manifests found by their labels.
use Rattle.std.specs.Prelude.{◌≡◌, ℕ, List}
use Rattle.c2_label_index.specs.Places.{kept_place}
use Rattle.c2_label_index.specs.declared.places.Places.{Places}
use Rattle.c2_rules.specs.Chains.{place_of}
use Rattle.c2_rules.specs.Readings.{Reading}

-- the place of the manifest with each label is kept, and none of a label that no manifest has
abbrev pub FindsPlaces : List Reading → Places → Type 0
FindsPlaces rs p = (label : List ℕ) → kept_place p label ≡ place_of rs label
