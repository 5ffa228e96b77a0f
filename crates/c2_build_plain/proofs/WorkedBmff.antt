-- A worked build into a BMFF file of two boxes, by the definition file and the message of the worked build into a JPEG file.
use Rattle.std.proofs.Common.{◌≡◌, ℕ, List, [], ◌∷◌, ◌++◌, replicate, None, refl, codes, lit<, lit≤}
use Rattle.std.proofs.lemmas.Bool.{false≢true}
use Rattle.c2_spec.specs.Bmff.Boxes.{Box, HasRoots, short}
use Rattle.c2_spec.specs.Bmff.Store.{HasNoBmffStore, is_c2pa_box, is_other_box}
use Rattle.c2_spec.specs.Cbor.Deterministic.{shortest_head}
use Rattle.c2_spec.specs.Located as located
use Rattle.c2_rules.specs.Opened.{IsOpened}
use Rattle.c2_new_file_spec.specs.Films.{AreOthers}
use Rattle.c2_new_file_spec.specs.Places.{IsPlace, in_boxes}
use Rattle.c2_build_refusals.specs.Stages.{fresh_ground}
use Rattle.c2_build_plain.specs.Meeting.{SomeBmffSucceeds}
use Rattle.c2_build_refusals.specs.Refusals.{first_refusal, late_tests}
use Rattle.c2_collect_spec.proofs.Worked.{message, parts}
use Rattle.c2_build_plain.proofs.Worked.{defined, definition_file, texts_in, worked_in}

-- the file type box
abbrev ftyp : Box
ftyp = record { form = short; kind = codes "ftyp"; payload = codes "isom" ++ replicate 4 0 }

-- a box with one byte
abbrev mdat : Box
mdat = record { form = short; kind = codes "mdat"; payload = 0x41 ∷ [] }

-- the root boxes of the file
abbrev pub film : List Box
film = ftyp ∷ mdat ∷ []

-- the file
abbrev pub media : List ℕ
media =
    0x00 ∷ 0x00 ∷ 0x00 ∷ 0x10 ∷ 0x66 ∷ 0x74 ∷ 0x79 ∷ 0x70 ∷ 0x69 ∷ 0x73 ∷ 0x6F ∷ 0x6D ∷ 0x00 ∷ 0x00 ∷ 0x00 ∷ 0x00 ∷ 0x00
    ∷ 0x00 ∷ 0x00 ∷ 0x09 ∷ 0x6D ∷ 0x64 ∷ 0x61 ∷ 0x74 ∷ 0x41 ∷ []

-- the file has these root boxes
has_bmff : HasRoots media film
has_bmff = record {
  fits = lit< tt;
  begins = refl;
  bytes = refl;
  forms =
      (record { is_box = record { kind = refl; fits = refl; user_type = λ h. absurd (false≢true h) }; sized = refl }, record { kind = refl; fits = refl; user_type = λ h. absurd (false≢true h) });
  few = lit≤ tt;
}

-- none of them has a part in a store
pub are_others : AreOthers film
unfolding is_c2pa_box is_other_box
are_others = (refl, (refl, tt))

-- the BMFF file has no store
no_store : HasNoBmffStore media
no_store = record { roots = film; has_roots = has_bmff; none = are_others }

-- the BMFF file is opened as a file without a store
is_absent : IsOpened media located.absent
is_absent = (located.absent, no_store, refl)

-- a new store goes behind them
pub is_place : IsPlace media (in_boxes film)
is_place = (refl, has_bmff)

-- no test fails there
pub none_fails : first_refusal (late_tests (fresh_ground media defined) parts (in_boxes film)) ≡ None
unfolding shortest_head
none_fails = refl

-- some build into a BMFF file succeeds
pub bmff_succeeds : SomeBmffSucceeds
bmff_succeeds hash said =
    let w = worked_in hash said media (in_boxes film) is_absent is_place none_fails in
    (media, definition_file, message, w.0, refl, texts_in, w.1)
