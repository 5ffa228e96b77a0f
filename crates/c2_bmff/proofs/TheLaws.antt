-- The laws of this crate, for the proofs of the crates above it.
use Rattle.c2_bmff.proofs.MatchLemmas.{all_excluded_rows, all_rows_excluded}
use Rattle.c2_bmff_excluded.specs.Marks.{excludes_row}
use Rattle.c2_lemmas.proofs.Bytes.{are_bytes}
use Rattle.c2_bmff_rows.specs.Rows.{rows_of}
use Rattle.c2_spec.specs.Bmff.Boxes.{Box, HasRoots}
use Rattle.c2_spec.specs.Bmff.Hash.{Exclusion as AnyExclusion, IsExcluded}
use Rattle.std.specs.List.{list_any}
use Rattle.std.specs.Prelude.{All, Bool, List, true, ℕ, ◌<◌, ◌^◌, ◌↔◌, ◌≡◌}

-- whether exclusions exclude a position of a BMFF file is decided
pub a_test_decides_what_is_excluded : (file : List ℕ) (boxes : List Box) (exclusions : List AnyExclusion)
    → All (λ b. b < 2 ^ 8) file → HasRoots file boxes
    → (excludes : ℕ → Bool) × ((i : ℕ) → (excludes i ≡ true) ↔ IsExcluded boxes exclusions i)
a_test_decides_what_is_excluded file boxes exclusions bytes has = (
  λ i. list_any (excludes_row file (rows_of boxes) i) exclusions,
  λ i. (all_rows_excluded file boxes exclusions i (are_bytes file bytes) has, all_excluded_rows file boxes exclusions i (are_bytes file bytes) has),
)
