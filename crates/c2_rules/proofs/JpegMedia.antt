-- A file whose segments begin a JPEG is no BMFF file, so it comes to what it does as a JPEG.
use Rattle.std.proofs.Common.{◌≡◌, ℕ, true, false, List, ap, refl}
use Rattle.c2_spec.specs.Container.{IsLocated, begins_jpeg, is_bmff, jpeg as jpeg_container}
use Rattle.c2_spec.specs.Jpeg.Store.{HasJpegStore}
use Rattle.c2_spec.specs.Jpeg.Segments.{Segment, HasSegments}
use Rattle.c2_spec.specs.Located.{here}
use Rattle.c2_spec.proofs.JpegLocated.{as_jpeg}
use Rattle.c2_rules.specs.Binding.{Media, IsMedia}

-- a file of segments doesn't begin as a BMFF file
pub no_bmff : (file : List ℕ) (segments : List Segment) (rest : List ℕ) → HasSegments file segments rest
    → is_bmff file ≡ false
no_bmff file segments rest h = ap is_bmff h.bytes

-- a file of segments begins as a JPEG
pub begins : (file : List ℕ) (segments : List Segment) (rest : List ℕ) → HasSegments file segments rest
    → begins_jpeg file ≡ true
begins file segments rest h = ap begins_jpeg h.bytes

-- a JPEG with these bytes
abbrev pub jpeg_media : List ℕ → Media
jpeg_media file = record { bytes = file; container = jpeg_container }

-- a file that begins as a JPEG is media of that kind
pub is_jpeg_media : (file : List ℕ) → begins_jpeg file ≡ true → IsMedia file (jpeg_media file)
is_jpeg_media file e = record { bytes = refl; container = e }

-- a file with a store of a JPEG is no BMFF file
pub store_no_bmff : (file : List ℕ) (start len : ℕ) (store : List ℕ) → HasJpegStore file start len store
    → is_bmff file ≡ false
store_no_bmff file start len store h = no_bmff file h.segments h.rest h.begins

-- a store of a JPEG is the store of its file
pub store_located : (file : List ℕ) (start len : ℕ) (store : List ℕ) → HasJpegStore file start len store
    → IsLocated file (here start len store)
store_located file start len store h = as_jpeg file (here start len store) (store_no_bmff file start len store h) h
