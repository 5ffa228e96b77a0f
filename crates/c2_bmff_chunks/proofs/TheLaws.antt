-- The laws of this crate, for the proofs of the crates above it.
use Rattle.c2_bmff_chunks.proofs.RootLemmas.{fields_behind, roots_shifted, stand_apart}
use Rattle.c2_bmff_chunks.proofs.ShiftLemmas.{chunks_stay, one_shifted, some_shifted}
use Rattle.c2_bmff_chunks.specs.Laws.{ChunksStay, FieldsLieBehind, OneShifted, RootsAreShifted, SomeShifted, TablesStandApart}

-- where tables stand apart in a file of bytes, exactly one file is that file with the places from one on moved
pub a_shifted_file_is_one_once : OneShifted
a_shifted_file_is_one_once = one_shifted

-- where tables stand apart in a file of bytes, exactly one file is that file with the places from one on moved
pub a_shifted_file_is_one_some : SomeShifted
a_shifted_file_is_one_some = some_shifted

-- the chunk tables of a file of which nothing is refused stand apart in it, behind its first root box, and the file with moved places has the root boxes that the file had
pub a_shifted_file_has_its_boxes_apart : TablesStandApart
a_shifted_file_has_its_boxes_apart = stand_apart

-- the chunk tables of a file of which nothing is refused stand apart in it, behind its first root box, and the file with moved places has the root boxes that the file had
pub a_shifted_file_has_its_boxes_behind : FieldsLieBehind
a_shifted_file_has_its_boxes_behind = fields_behind

-- the chunk tables of a file of which nothing is refused stand apart in it, behind its first root box, and the file with moved places has the root boxes that the file had
pub a_shifted_file_has_its_boxes_roots : RootsAreShifted
a_shifted_file_has_its_boxes_roots = roots_shifted

-- where a piece is put in and the places behind it are moved by its length, each field of a chunk table tells where the same byte of the media is then, unless that byte is itself in a field of a chunk table
pub chunk_places_stay_true : ChunksStay
chunk_places_stay_true = chunks_stay
