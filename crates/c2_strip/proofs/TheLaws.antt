-- The laws of this crate, for the proofs of the crates above it.
use Rattle.c2_base.specs.declared.values.Range.{Range as AnyRange}
use Rattle.c2_container.proofs.TheLaws.{each_media_file_is_located_located}
use Rattle.c2_spec.proofs.Kept.{kept_around}
use Rattle.c2_spec.specs.Cover.{data_text}
use Rattle.c2_strip.proofs.Strips.{each_stripped, one_stripped}
use Rattle.c2_strip.specs.Stripping.{StripsTo, stripped}
use Rattle.c2_strip.specs.declared.error.Stripped.{Stripped as AnyStripped}
use Rattle.std.proofs.Common.{sym}
use Rattle.std.specs.Prelude.{All, List, [], length, ℕ, ◌+◌, ◌<◌, ◌^◌, ◌∷◌, ◌≡◌, ◌≤◌}

-- whatever bytes a file has, it comes to one thing without its store
pub each_file_is_stripped_each : (file : List ℕ) → All (λ b. b < 2 ^ 8) file → (a : AnyStripped) × StripsTo file a
each_file_is_stripped_each = each_stripped each_media_file_is_located_located

-- whatever bytes a file has, it comes to one thing without its store
pub each_file_is_stripped_once : (file : List ℕ) (a b : AnyStripped) → StripsTo file a → StripsTo file b → a ≡ b
each_file_is_stripped_once = one_stripped

-- a file less a range is the list of its bytes at the positions outside of this range, in order
pub a_stripped_file_is_what_is_outside : (file : List ℕ) (range : AnyRange) → range.start + range.length ≤ length file
    → stripped range file ≡ data_text (range ∷ []) file
a_stripped_file_is_what_is_outside = λ file range fits. sym (kept_around range file fits)
