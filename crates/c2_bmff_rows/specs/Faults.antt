-- Which test on the root boxes of a file fails first (ISO/IEC 14496-12, 4.2). What a box holds isn't tested here.
use Rattle.std.specs.Prelude.{◌≡◌, ℕ, ◌<◌, ◌≤◌, ◌^◌, true, false, List, length}
use Rattle.c2_base.specs.declared.media.MediaError.{MediaError}
use Rattle.c2_base.specs.declared.media.MediaError.TheVariants.{FileTooLarge, NotMedia}
use Rattle.c2_spec.specs.Bmff.Boxes.{RootFault, begins_bmff}

-- The first test that fails: that on the file's length, that on its beginning, or one on its root boxes.
pub data FirstRootsFault (file : List ℕ) : MediaError → Type 0 where
  too_large : 2 ^ 62 ≤ length file → FirstRootsFault file (FileTooLarge (length file))
  not_media : length file < 2 ^ 62 → begins_bmff file ≡ false → FirstRootsFault file NotMedia
  root : (fault : MediaError) → length file < 2 ^ 62 → begins_bmff file ≡ true
      → RootFault file fault → FirstRootsFault file fault
