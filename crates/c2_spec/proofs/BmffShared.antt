-- Boxes of BMFF files, their lengths and paths.
use Rattle.c2_spec.proofs.BmffSizes.{bytes_size}
use Rattle.c2_spec.specs.Bmff.Boxes.{Box, IsBox, box_bytes, box_len, boxes_len}
use Rattle.c2_spec.specs.Bmff.Paths.{OnPath, PathStep, PlacedBox, below, last, matched}
use Rattle.c2_spec.specs.Bmff.Writing.{c2pa_box, c2pa_frame_len}
use Rattle.std.proofs.Common.{List, [], ap, arith, length, length-append, subst, ℕ, ◌++◌, ◌+◌, ◌∙◌, ◌∷◌, ◌≡◌}
use Rattle.std.proofs.lemmas.Grind.{flat_map-append}
use Rattle.std.specs.List.{flat_map}
use Rattle.std.specs.Prelude.{Contains}

-- a path of one step leads to what it matches
pub alone : (siblings : List PlacedBox) (steps : List PathStep) (b : PlacedBox) → OnPath siblings steps b
    → (step : PathStep) → steps ≡ step ∷ [] → Contains (matched step siblings) b
alone siblings steps b (last s step' c m) step e = subst (λ (x : PathStep). Contains (matched x siblings) b) (head_is step' step e) m
  where
    head_is : (x y : PathStep) → x ∷ [] ≡ y ∷ [] → x ≡ y
    head_is x y e = cc (e)
alone siblings steps b (below s first next more c parent children enters m has on) step e = absurd (two_one first next more step e)
  where
    two_one : (x y : PathStep) (zs : List PathStep) (w : PathStep) → x ∷ y ∷ zs ≡ w ∷ [] → ⊥
    two_one x y zs w e = cc (e)

-- the bytes of boxes with one more before them
pub boxes_length_more : (b : Box) (bs : List Box) → IsBox b → boxes_len (b ∷ bs) ≡ box_len b + boxes_len bs
boxes_length_more b bs h =
    length-append (box_bytes b) (flat_map box_bytes bs) ∙ ap (λ n. n + boxes_len bs) (bytes_size b h)

-- how long its box is
pub c2pa_box_length : (store : List ℕ) → length (box_bytes (c2pa_box store)) ≡ c2pa_frame_len + length store
c2pa_box_length store = omega arith

-- boxes with one between them
pub parts_are : (xs : List Box) (b : Box) (ys : List Box)
    → flat_map box_bytes (xs ++ b ∷ ys) ≡ flat_map box_bytes xs ++ (box_bytes b ++ flat_map box_bytes ys)
parts_are xs b ys = flat_map-append box_bytes xs (b ∷ ys)
