-- The places of manifests by their labels.
use Rattle.std.proofs.Common.{◌≡◌, ℕ, ◌<◌, List, length, map, take, Option, Some, position, sym, ap, ◌∙◌, arith}
use Rattle.std.proofs.lemmas.List.{length-take-le, length-map}
use Rattle.std.proofs.Math.Seq.{take-length}
use Rattle.c2_spec.specs.C2pa.Manifest.{is_given}
use Rattle.c2_label_index.specs.Places.{ArePlaces}
use Rattle.c2_label_index.specs.declared.places.Places.{Places}
use Rattle.c2_rules.specs.Chains.{label_in}
use Rattle.c2_rules.specs.Readings.{Reading}
use Rattle.c2_read_manifests.specs.Named.{FindsPlaces}
use Rattle.c2_lemmas.proofs.Lists.{position_map}

-- the labels of manifests, each of which has one
abbrev pub labels_of : List Reading → List (Option (List ℕ))
labels_of rs = map (λ (r : Reading). Some (label_in r)) rs

-- so many labels were added
pub so_many : (rs : List Reading) (i : ℕ) → i < length rs → i ≡ length (labels_of (take i rs))
so_many rs i lt = sym (length-map (take i rs) (λ (r : Reading). Some (label_in r)) ∙ length-take-le i rs (omega arith))

-- all of them
pub all_placed : (rs : List Reading) (p : Places) → ArePlaces (labels_of (take (length rs) rs)) p → FindsPlaces rs p
all_placed rs p h label =
    h label ∙ ap (λ (xs : List Reading). position (λ o. is_given o label) (labels_of xs)) (take-length rs)
    ∙ position_map (λ (r : Reading). Some (label_in r)) (λ o. is_given o label) rs
