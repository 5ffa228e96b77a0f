-- The container of a media file: JPEG (ITU-T T.81) or the ISO base media file format (ISO/IEC 14496-12), and what the file comes
-- to as a container of a manifest store.
use Rattle.std.specs.Prelude.{◌≡◌, ℕ, Bool, true, not, ◌&&◌, List, take}
use Rattle.std.specs.Bool.{MatchBool}
use Rattle.std.specs.Str.{bytes_eq}
use Rattle.c2_spec.specs.Bmff.Boxes.{Box, HasRoots, begins_bmff}
use Rattle.c2_spec.specs.Bmff.Store.{IsBmffLocated}
use Rattle.c2_spec.specs.Jpeg.Store as jpeg_store
use Rattle.c2_spec.specs.Jpeg.Segments.{start_of_image}
use Rattle.c2_spec.specs.Located.{Located}

-- the file begins as a JPEG
abbrev pub begins_jpeg : List ℕ → Bool
begins_jpeg file = bytes_eq (take 2 file) start_of_image

-- a BMFF file; this project's own choice is that a file which begins as both is a JPEG
abbrev pub is_bmff : List ℕ → Bool
is_bmff file = not (begins_jpeg file) && begins_bmff file

-- a container: of a BMFF file its root boxes
pub data Container : Type 0 where
  jpeg : Container
  bmff : List Box → Container

-- the file has this container
abbrev pub IsContainer : List ℕ → Container → Type 0
IsContainer file jpeg = begins_jpeg file ≡ true
IsContainer file (bmff roots) = (is_bmff file ≡ true) × HasRoots file roots

-- What a file comes to. One that begins as neither is refused as a JPEG would be: as too large, else as no media.
abbrev pub IsLocated : List ℕ → Located → Type 0
IsLocated file what =
    MatchBool (is_bmff file) (IsBmffLocated file what) (jpeg_store.IsLocated file what)
