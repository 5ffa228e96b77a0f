-- The laws of this crate, for the proofs of the crates above it.
use Rattle.c2_cover.proofs.PassingLemmas.{kept_others}
use Rattle.c2_cover.proofs.ToldLemmas.{length-told}
use Rattle.c2_cover.specs.BoxOffsets.{AreBoxOffsets}
use Rattle.c2_cover.specs.Covers.{Covered, excluded_of, kept_count, text_len, text_of}
use Rattle.c2_spec.specs.Cover.{is_excluded}
use Rattle.std.proofs.Common.{ap, arith, ◌-◌, ◌∙◌}
use Rattle.std.specs.Prelude.{List, length, ℕ, ◌≡◌}

-- a covered text has as many bytes as positions of the file are covered, and 8 for each box offset besides
pub each_text_has_its_count : (c : Covered) (file : List ℕ) → length file ≡ c.size
    → AreBoxOffsets c.size c.ranges 0 c.offsets → length (text_of c file) ≡ text_len c
each_text_has_its_count cover file e offsets =
    let all : cover.size - 0 ≡ cover.size = omega arith in
    let kept : kept_count (is_excluded cover.ranges) 0 (cover.size - 0) ≡ cover.size - length (excluded_of cover) =
    ap (kept_count (is_excluded cover.ranges) 0) all ∙ kept_others (is_excluded cover.ranges) cover.size in
    omega (arith, kept, length-told cover.size 0 cover.ranges cover.offsets file offsets e)
