-- An assertion box by its index.
use Rattle.std.proofs.Common.{◌≡◌, ℕ, zero, suc, ◌+◌, ◌≤◌, ◌==◌, List, [], ◌∷◌, length, drop, Option, Some, None, slice_get, position, option_map, refl, sym, ap, ◌∙◌, arith}
use Rattle.std.proofs.lemmas.Option.{same_Some}
use Rattle.std.proofs.Math.ListN.{drop_of_length-le}
use Rattle.c2_spec.specs.declared.store.ManifestBoxes.{ManifestBoxes}
use Rattle.c2_rules.specs.BoxPlaces.{found_or, box_place_from}

-- from a place on, a store's manifests are the one at the place and those after it
dropped : (ms : List ManifestBoxes) (i : ℕ) (m : ManifestBoxes) → slice_get ms i ≡ Some m
    → drop i ms ≡ m ∷ drop (i + 1) ms
dropped [] i m at = absurd cc
dropped (x ∷ ms) zero m at = ap (λ (y : ManifestBoxes). y ∷ ms) (same_Some x m at)
dropped (x ∷ ms) (suc i) m at = let later : suc i + 1 ≡ suc (i + 1) = omega arith in dropped ms i m at ∙ ap (λ (n : ℕ). m ∷ drop n (x ∷ ms)) (sym later)

-- where a manifest's assertion boxes were found, the manifest is there and the boxes are its own
some_boxes : (o : Option ManifestBoxes) (boxes : List ℕ)
    → Some boxes ≡ option_map (λ (m : ManifestBoxes). m.assertions) o
    → (m : ManifestBoxes) × (o ≡ Some m) × (boxes ≡ m.assertions)
some_boxes None boxes at = absurd cc
some_boxes (Some m) boxes at = (m, refl, same_Some boxes m.assertions at)

-- one manifest more was looked at
pub looked_at : (ms : List ManifestBoxes) (i at : ℕ) (boxes : List ℕ) (o : Option ℕ)
    → Some boxes ≡ option_map (λ (m : ManifestBoxes). m.assertions) (slice_get ms i)
    → o ≡ position (λ (j : ℕ). j == at) boxes
    → box_place_from i (drop i ms) at ≡ found_or i o (box_place_from (i + 1) (drop (i + 1) ms) at)
looked_at ms i at boxes o there is =
    let m = some_boxes (slice_get ms i) boxes there in
    ap (λ (xs : List ManifestBoxes). box_place_from i xs at) (dropped ms i m.0 m.1)
    ∙ ap (λ (x : Option ℕ). found_or i x (box_place_from (i + 1) (drop (i + 1) ms) at))
    (ap (λ (bs : List ℕ). position (λ (j : ℕ). j == at) bs) (sym m.2) ∙ sym is)

-- a box index that stands among this manifest's boxes, and in no earlier one, has its place here
pub found_here : (ms : List ManifestBoxes) (i at index : ℕ) (boxes : List ℕ) (o : Option ℕ)
    → box_place_from 0 ms at ≡ box_place_from i (drop i ms) at
    → Some boxes ≡ option_map (λ (m : ManifestBoxes). m.assertions) (slice_get ms i)
    → o ≡ position (λ (j : ℕ). j == at) boxes → o ≡ Some index
    → Some (record { manifest = i; box = index }) ≡ box_place_from 0 ms at
found_here ms i at index boxes o so_far there is some =
    sym
    (so_far ∙ looked_at ms i at boxes o there is ∙ ap (λ (x : Option ℕ). found_or i x (box_place_from (i + 1) (drop (i + 1) ms) at)) some)

-- a box index that isn't among this manifest's boxes has the place that the later manifests give it
pub not_here : (ms : List ManifestBoxes) (i at : ℕ) (boxes : List ℕ) (o : Option ℕ)
    → box_place_from 0 ms at ≡ box_place_from i (drop i ms) at
    → Some boxes ≡ option_map (λ (m : ManifestBoxes). m.assertions) (slice_get ms i)
    → o ≡ position (λ (j : ℕ). j == at) boxes → o ≡ None
    → box_place_from 0 ms at ≡ box_place_from (i + 1) (drop (i + 1) ms) at
not_here ms i at boxes o so_far there is none =
    so_far ∙ looked_at ms i at boxes o there is
    ∙ ap (λ (x : Option ℕ). found_or i x (box_place_from (i + 1) (drop (i + 1) ms) at)) none

-- a box index that isn't among the boxes of any manifest has no place
pub nowhere : (ms : List ManifestBoxes) (i at : ℕ) → length ms ≤ i
    → box_place_from 0 ms at ≡ box_place_from i (drop i ms) at → None ≡ box_place_from 0 ms at
nowhere ms i at past so_far =
    sym (so_far ∙ ap (λ (xs : List ManifestBoxes). box_place_from i xs at) (drop_of_length-le ms past))
