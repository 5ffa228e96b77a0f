-- A small JPEG file and the sizes of packets, computed.
use Rattle.std.proofs.Common.{◌≡◌, ℕ, List, [], ◌∷◌, Some, refl, inl, lit<, lit≤, arith}
use Rattle.std.proofs.lemmas.Bool.{false≢true}
use Rattle.c2_spec.specs.Jpeg.Segments.{Segment}
use Rattle.c2_spec.specs.Jpeg.Writing.{segments_len}
use Rattle.c2_spec.specs.Jpeg.Places.{IsOfSegments, IsInsertPlace, HasNumber}

-- SOI, the APP0 segment of JFIF, and EOI, in 22 bytes
abbrev small_file : List ℕ
small_file =
    0xFF ∷ 0xD8 ∷ 0xFF ∷ 0xE0 ∷ 0x00 ∷ 0x10 ∷ 0x4A ∷ 0x46 ∷ 0x49 ∷ 0x46 ∷ 0x00 ∷ 0x01 ∷ 0x02 ∷ 0x00 ∷ 0x00 ∷ 0x01 ∷ 0x00
    ∷ 0x01 ∷ 0x00 ∷ 0x00 ∷ 0xFF ∷ 0xD9 ∷ []

-- the APP0 segment of JFIF
abbrev jfif : Segment
jfif =
    record
    { fill = 0; marker = 0xE0; payload = 0x4A ∷ 0x46 ∷ 0x49 ∷ 0x46 ∷ 0x00 ∷ 0x01 ∷ 0x02 ∷ 0x00 ∷ 0x00 ∷ 0x01 ∷ 0x00 ∷ 0x01 ∷ 0x00 ∷ 0x00 ∷ [] }

-- the small file has one segment
pub one_segment : IsOfSegments small_file (jfif ∷ [])
one_segment = record {
  fits = lit< tt;
  rest = 0xFF ∷ 0xD9 ∷ [];
  begins =
      record
      { bytes = refl; each = (record { marker = refl; alone = λ h. absurd (false≢true h); fits = lit< tt }, tt) };
  ends = record { fill = 0; marker = 0xD9; more = []; bytes = refl; ends = inl refl };
}

-- packets go behind it
pub place_20 : IsInsertPlace small_file 20
place_20 = record { segments = jfif ∷ []; is_of = one_segment; place_is = refl }

-- under the least number
pub number_0x0211 : HasNumber small_file (Some 0x0211)
number_0x0211 = record {
  segments = jfif ∷ [];
  is_of = one_segment;
  number_is =
      record { least = lit≤ tt; most = lit< tt; free = refl; first = λ n low high. absurd (omega (arith, low, high)) };
}

-- the packet of the least store has 50 bytes
pub size_38 : segments_len 38 ≡ 50
size_38 = refl

-- the packet of a store of 1,129 bytes has 1,141 bytes
pub size_1129 : segments_len 1129 ≡ 1141
size_1129 = refl

-- the packet of the largest store in one packet has 64,004 bytes
pub size_63992 : segments_len 63992 ≡ 64004
size_63992 = refl

-- the size of the packets of the least store in two
pub size_63993 : segments_len 63993 ≡ 64025
size_63993 = refl

-- the size of the packets of the largest store
pub size_33554432 : segments_len 33554432 ≡ 33564924
size_33554432 = refl
