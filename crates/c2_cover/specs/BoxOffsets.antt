-- Words of a cover: the starts of root boxes, which a covered text has between the bytes of the file.
use Rattle.std.specs.Prelude.{◌≡◌, ℕ, ◌-◌, ◌<◌, ◌≤◌, ⊤, Bool, false, not, List, [], ◌∷◌, ◌++◌, take, drop, filter}
use Rattle.std.specs.Int.{w64, to_be_bytes}
use Rattle.std.specs.List.{flat_map, range_with_len}
use Rattle.c2_base.specs.declared.values.Range.{Range}
use Rattle.c2_bmff_rows.specs.declared.row.RootBox.{RootBox}
use Rattle.c2_spec.specs.Cover.{is_excluded, kept_from}
use Rattle.c2_cover.specs.declared.offsets.BoxOffset.{BoxOffset}

-- the positions of the box offsets rise, from `low` on, and are positions of a file of `size` bytes that these ranges leave
abbrev pub AreBoxOffsets : ℕ → List Range → ℕ → List BoxOffset → Type 0
AreBoxOffsets size ranges low [] = ⊤
AreBoxOffsets size ranges low (w ∷ ws) =
    (low ≤ w.at) × (w.at < size) × (is_excluded ranges w.at ≡ false) × AreBoxOffsets size ranges w.at ws

-- The bytes of a file from position `at` on that aren't excluded, where each box offset stands in 8 bytes before the byte at its
-- position.
abbrev pub told_from : (ℕ → Bool) → List BoxOffset → ℕ → List ℕ → List ℕ
told_from excludes [] at file = kept_from excludes at (drop at file)
told_from excludes (w ∷ ws) at file =
    kept_from excludes at (take (w.at - at) (drop at file))
    ++ (to_be_bytes w64 w.start ++ told_from excludes ws w.at file)

-- a box offset at the first of these positions, and none where there is none
abbrev pub at_first : ℕ → List ℕ → List BoxOffset
at_first start [] = []
at_first start (i ∷ is) = record { at = i; start = start } ∷ []

-- the box offset of a root box: its start, at its first position that isn't excluded
abbrev pub word_of : (ℕ → Bool) → RootBox → List BoxOffset
word_of excludes row =
    at_first row.start (filter (λ i. not (excludes i)) (range_with_len row.start row.length))

-- the box offsets of these root boxes
abbrev pub offsets_of : (ℕ → Bool) → List RootBox → List BoxOffset
offsets_of excludes rows = flat_map (word_of excludes) rows
