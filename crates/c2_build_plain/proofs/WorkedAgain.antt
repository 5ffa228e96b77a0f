-- The worked builds over files with stores: into the JPEG file and into the BMFF file that worked builds write.
use Rattle.std.proofs.Common.{◌≡◌, ℕ, true, false, List, length, None, refl, sym, subst}
use Rattle.std.proofs.lemmas.Option.{same_Some}
use Rattle.c2_spec.specs.Bmff.Boxes.{box_bytes}
use Rattle.c2_spec.specs.Bmff.Writing.{IsBmffBase, c2pa_box, insert_place}
use Rattle.c2_spec.specs.Cbor.Deterministic.{shortest_head}
use Rattle.c2_spec.specs.Jumbf.Tree.{tree_bytes}
use Rattle.c2_spec.specs.PutIn.{put_in}
use Rattle.c2_new_content_spec.proofs.SplitLaws.{a_base_stays}
use Rattle.c2_new_file_spec.proofs.BmffLaws.{a_built_bmff_has_its_base}
use Rattle.c2_new_file_spec.specs.Films.{bmff_store}
use Rattle.c2_new_file_spec.specs.Places.{in_boxes}
use Rattle.c2_build_plain.specs.Meeting.{SomeBuildOverStoreSucceeds}
use Rattle.c2_collect_spec.proofs.Worked.{is_place, media, none_begins, place}
use Rattle.c2_build_plain.proofs.Worked.{none_fails}
use Rattle.c2_build_plain.proofs.WorkedBmff.{are_others, film}
use Rattle.c2_build_plain.proofs.WorkedBmff.{is_place as bmff_place, media as bmff_media, none_fails as bmff_passes}
use Rattle.c2_build_plain.proofs.WorkedOver.{IsLeftAgain, IsWorked, first, no_binding, over_succeeds, range_of, refusal_with, second, total}

-- ---- the JPEG file

-- no test fails over the first JPEG file
jpeg_over : refusal_with place (length media) second 2 (total (no_binding place)) (range_of place (total (no_binding place))) ≡ None
unfolding shortest_head
jpeg_over = refl

-- without its store it is what it was
jpeg_left : IsLeftAgain media place
jpeg_left hash padded bytes digests can put = sym (a_base_stays hash first padded media bytes place digests can put)

-- this is known of a JPEG file with a store
jpeg_worked : IsWorked false media place
jpeg_worked =
    record
    { free = record { is = is_place; free = none_begins }; container = λ bytes. refl; passes = none_fails; passes_over = jpeg_over; left = jpeg_left }

-- ---- the BMFF file

-- no test fails over the first BMFF file
bmff_over : refusal_with (in_boxes film) (length bmff_media) second 2 (total (no_binding (in_boxes film))) (range_of (in_boxes film) (total (no_binding (in_boxes film)))) ≡ None
unfolding shortest_head
bmff_over = refl

-- without its store it is what it was
bmff_left : IsLeftAgain bmff_media (in_boxes film)
bmff_left hash padded bytes digests can put =
    let is : IsBmffBase (put_in (insert_place film) (box_bytes (c2pa_box (tree_bytes (bmff_store hash first padded film)))) bmff_media) bmff_media film =
    a_built_bmff_has_its_base hash first padded bmff_media film digests
    (record { has_roots = can.place.is.1; closed = can.room.0; small = can.small; fits = can.fits; few = can.room.1 })
    are_others in
    (film, subst (λ (x : List ℕ). IsBmffBase (put_in (insert_place film) x bmff_media) bmff_media film) (same_Some (box_bytes (c2pa_box (tree_bytes (bmff_store hash first padded film)))) bytes put) is)

-- this is known of a BMFF file with a store
bmff_worked : IsWorked true bmff_media (in_boxes film)
bmff_worked =
    record
    { free = record { is = bmff_place; free = are_others }; container = λ bytes. refl; passes = bmff_passes; passes_over = bmff_over; left = bmff_left }

-- ---- both

-- some build into a file with a store succeeds, of either container
pub again_succeeds : SomeBuildOverStoreSucceeds
again_succeeds false hash said digests all = over_succeeds hash said digests all jpeg_worked
again_succeeds true hash said digests all = over_succeeds hash said digests all bmff_worked
