-- The laws of this crate, for the proofs of the crates above it.
use Rattle.c2_base.specs.declared.media.MediaError.{MediaError}
use Rattle.c2_jpegseg_segments.proofs.EachFile.{each_located}
use Rattle.c2_jpegseg_segments.proofs.EachList.{each_ends}
use Rattle.c2_jpegseg_segments.proofs.FreeNumbers.{some_number}
use Rattle.c2_jpegseg_segments.proofs.OneList.{no_segments_fault, one_list, one_number, one_place, one_segments_fault}
use Rattle.c2_jpegseg_segments.proofs.StoreBytes.{store-bytes, store-of_the_file}
use Rattle.c2_jpegseg_segments.proofs.Unique.{one_located}
use Rattle.c2_spec.specs.Jpeg.Places.{HasNumber, IsInsertPlace, IsOfSegments, SegmentsFault}
use Rattle.c2_spec.specs.Jpeg.Segments.{Segment}
use Rattle.c2_spec.specs.Jpeg.Store.{HasJpegStore, HasNoJpegStore, IsLocated}
use Rattle.c2_spec.specs.Jpeg.Writing.{IsNumberOf}
use Rattle.c2_spec.specs.Located.{Located}
use Rattle.std.specs.List.{All, Contains}
use Rattle.std.specs.Prelude.{List, Option, ℕ, ◌<◌, ◌^◌, ◌≡◌, ◌⊎◌}

-- whatever bytes a file has, it comes to one thing
pub each_file_is_located_located : (file : List ℕ) → All (λ b. b < 2 ^ 8) file → (what : Located) × IsLocated file what
each_file_is_located_located = each_located

-- whatever bytes a file has, it comes to one thing
pub each_file_is_located_once : (file : List ℕ) (v w : Located) → IsLocated file v → IsLocated file w → v ≡ w
each_file_is_located_once = one_located

-- each byte of a file's store is one of the file's, so it is below 2^8 where the file's are
pub store_bytes_are_of_the_file_of_the_file : (file : List ℕ) (start len : ℕ) (store : List ℕ)
    → HasJpegStore file start len store → All (Contains file) store
store_bytes_are_of_the_file_of_the_file = store-of_the_file

-- each byte of a file's store is one of the file's, so it is below 2^8 where the file's are
pub store_bytes_are_of_the_file_are_bytes : (file : List ℕ) (start len : ℕ) (store : List ℕ)
    → HasJpegStore file start len store → All (λ b. b < 2 ^ 8) file → All (λ b. b < 2 ^ 8) store
store_bytes_are_of_the_file_are_bytes = store-bytes

-- whatever bytes a file has, it is one list of segments that ends, or one first test of a marker or a length fails, and not both
pub segments_end_or_fail_each : (file : List ℕ) → All (λ b. b < 2 ^ 8) file
    → ((segments : List Segment) × IsOfSegments file segments) ⊎ ((fault : MediaError) × SegmentsFault file fault)
segments_end_or_fail_each = each_ends

-- whatever bytes a file has, it is one list of segments that ends, or one first test of a marker or a length fails, and not both
pub segments_end_or_fail_one : (file : List ℕ) (xs ys : List Segment) → IsOfSegments file xs → IsOfSegments file ys
    → xs ≡ ys
segments_end_or_fail_one = λ file xs ys a b. (one_list file xs ys a.rest b.rest a.begins b.begins a.ends b.ends).0

-- whatever bytes a file has, it is one list of segments that ends, or one first test of a marker or a length fails, and not both
pub segments_end_or_fail_no_fault : (file : List ℕ) (segments : List Segment) (fault : MediaError)
    → IsOfSegments file segments → SegmentsFault file fault → ⊥
segments_end_or_fail_no_fault = no_segments_fault

-- whatever bytes a file has, it is one list of segments that ends, or one first test of a marker or a length fails, and not both
pub segments_end_or_fail_one_fault : (file : List ℕ) (e f : MediaError) → SegmentsFault file e → SegmentsFault file f
    → e ≡ f
segments_end_or_fail_one_fault = one_segments_fault

-- the packets of a store go to one place in a file, and one number is free for them, or none
pub place_and_number_are_one_place : (file : List ℕ) (p q : ℕ) → IsInsertPlace file p → IsInsertPlace file q → p ≡ q
place_and_number_are_one_place = one_place

-- the packets of a store go to one place in a file, and one number is free for them, or none
pub place_and_number_are_one_number : (file : List ℕ) (m n : Option ℕ) → HasNumber file m → HasNumber file n → m ≡ n
place_and_number_are_one_number = one_number

-- the packets of a store go to one place in a file, and one number is free for them, or none
pub place_and_number_are_one_each : (segments : List Segment) → (number : Option ℕ) × IsNumberOf segments number
place_and_number_are_one_each = some_number

-- in a file that has a store, or has none, no test of a marker or a length fails
pub a_located_file_is_segments_store : (file : List ℕ) (start len : ℕ) (store : List ℕ)
    → HasJpegStore file start len store → (segments : List Segment) × IsOfSegments file segments
a_located_file_is_segments_store =
    λ file start len store h. (h.segments, record { fits = h.fits; rest = h.rest; begins = h.begins; ends = h.ends })

-- in a file that has a store, or has none, no test of a marker or a length fails
pub a_located_file_is_segments_none : (file : List ℕ) → HasNoJpegStore file
    → (segments : List Segment) × IsOfSegments file segments
a_located_file_is_segments_none =
    λ file h. (h.segments, record { fits = h.fits; rest = h.rest; begins = h.begins; ends = h.ends })
