-- Which bytes of a BMFF file a BMFF hash covers (C2PA Technical Specification 2.x, "BMFF-based hash"). What a root box gives that
-- is excluded in part is this project's own choice: its offset, and the bytes that are left.
use Rattle.std.specs.Prelude.{◌≡◌, ℕ, Bool, true, ◌↔◌, List, [], ◌∷◌, ◌++◌, filter}
use Rattle.std.specs.Int.{w64, to_be_bytes}
use Rattle.std.specs.List.{flat_map, range_with_len}
use Rattle.c2_spec.specs.Bmff.Boxes.{Box, box_bytes}
use Rattle.c2_spec.specs.Bmff.Hash.{Exclusion, IsExcluded}
use Rattle.c2_spec.specs.Bmff.Paths.{PlacedBox, placed_from}
use Rattle.c2_spec.specs.Cover.{kept_from}

-- what is left of a root box, after the place in 8 bytes where the box begins; nothing where nothing is left
abbrev pub after_offset : ℕ → List ℕ → List ℕ
after_offset at [] = []
after_offset at (x ∷ xs) = to_be_bytes w64 at ++ x ∷ xs

-- what a root box gives to the covered text
abbrev pub root_text : (ℕ → Bool) → PlacedBox → List ℕ
root_text excludes b = after_offset b.at (kept_from excludes b.at (box_bytes b.box))

-- what the root boxes of a file give to the covered text, in order
abbrev pub bmff_text : (ℕ → Bool) → List Box → List ℕ
bmff_text excludes roots = flat_map (root_text excludes) (placed_from 0 roots)

-- What these exclusions leave of a file with these root boxes: the positions that they exclude, and the covered text. The test is
-- the one that holds exactly of the positions that some exclusion excludes.
pub record IsBmffCover (roots : List Box) (size : ℕ) (exclusions : List Exclusion)
    (excluded text : List ℕ) : Type 0 where
  pub excludes : ℕ → Bool
  pub exactly : (i : ℕ) → (excludes i ≡ true) ↔ IsExcluded roots exclusions i
  pub positions : excluded ≡ filter excludes (range_with_len 0 size)
  pub bytes : text ≡ bmff_text excludes roots
