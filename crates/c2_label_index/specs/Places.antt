-- Where labels stand first.
use Rattle.std.specs.Prelude.{◌≡◌, ℕ, List, Option, position}
use Rattle.std.specs.BTreeMap.{get_by}
use Rattle.std.specs.Cmp.Lexicographic.{slice_cmp}
use Rattle.std.specs.Ordering.{nat_cmp}
use Rattle.c2_spec.specs.C2pa.Manifest.{is_given}
use Rattle.c2_label_index.specs.declared.places.Places.{Places}

-- the place that is kept of a label
abbrev pub kept_place : Places → List ℕ → Option ℕ
kept_place p label = get_by (λ k. slice_cmp nat_cmp label k.now) p.first

-- the first place of each of these labels is kept, and none of another label
abbrev pub ArePlaces : List (Option (List ℕ)) → Places → Type 0
ArePlaces labels p =
    (label : List ℕ) → kept_place p label ≡ position (λ o. is_given o label) labels
