-- The laws of this crate, for the proofs of the crates above it.
use Rattle.c2_bmff_insert_spec.proofs.Bases.{base_is_plain, end_cut, lengths_kept, one_base}
use Rattle.c2_bmff_insert_spec.proofs.Covering.{built_cover, text_same, text_told}
use Rattle.c2_bmff_insert_spec.proofs.Frames.{frame_len, holds_store, is_frame, same_store, whole_store}
use Rattle.c2_bmff_insert_spec.proofs.Placing.{before_sized, begins_before, bytes_more, forms_append, last_forms, last_is_end, left_is, one_more, parts_are, put_is}
use Rattle.c2_bmff_insert_spec.specs.Laws.{BaseHasNoStore, BaseIsOne, BuiltTextIsCovered, CoverIsBuiltText, EndIsCutOut, OthersKeepLengths, StoreIsNotCovered, StoreIsPutIn, file_with}
use Rattle.c2_spec.proofs.BmffSizes.{bytes_size}
use Rattle.c2_spec.specs.Bmff.Boxes.{Box, HasRoots, begins_bmff, box_bytes, boxes_len}
use Rattle.c2_spec.specs.Bmff.Store.{HoldsBmffStore, is_other_box}
use Rattle.c2_spec.specs.Bmff.Writing.{before_mfra, c2pa_box, c2pa_frame_len, freed, insert_place, last_mfra, with_store, without}
use Rattle.c2_spec.specs.PutIn.{taken_out}
use Rattle.std.proofs.Common.{Bool, List, [], ap, arith, cond, length, refl, subst, sym, ℕ, ◌++◌, ◌+◌, ◌∙◌, ◌∷◌, ◌≡◌}
use Rattle.std.specs.List.{AllByRecursion, flat_map}
use Rattle.std.specs.Prelude.{true}
use Rattle.c2_lemmas.proofs.Each.{each_back, each_front}

-- a file that a store is put into has the root boxes that it had and the store's box in its place
pub a_put_store_is_found : StoreIsPutIn
a_put_store_is_found base roots store can =
    let xs : List Box = before_mfra roots in
    let ys : List Box = last_mfra roots in
    let new : Box = c2pa_box store in
    let parts : xs ++ ys ≡ roots = parts_are roots in
    let was : base ≡ flat_map box_bytes (xs ++ ys) = can.has_roots.bytes ∙ ap (flat_map box_bytes) (sym parts) in
    let file : file_with base roots store ≡ flat_map box_bytes (xs ++ new ∷ ys) =
    ap (λ (f : List ℕ). file_with f roots store) was ∙ put_is xs ys new in
    let frame = is_frame store can.is_store in
    let own : length (box_bytes new) ≡ c2pa_frame_len + length store = bytes_size new frame.is_box ∙ frame_len store in
    let old_size : length base ≡ boxes_len (xs ++ ys) = ap length was in
    let size : length (file_with base roots store) ≡ length base + (c2pa_frame_len + length store) =
    omega (arith, ap length file, bytes_more xs ys new, own, old_size) in
    let others : AllByRecursion (λ (b : Box). is_other_box b ≡ true) (xs ++ ys) =
    subst (AllByRecursion (λ (b : Box). is_other_box b ≡ true)) (sym parts) can.others in
    let has : HasRoots (file_with base roots store) (with_store store roots) = record {
      fits = omega (arith, size, can.fits);
      begins = ap begins_bmff file ∙ begins_before base roots (new ∷ ys) can.has_roots;
      bytes = file;
      forms =
          forms_append xs (new ∷ ys) (before_sized 0 roots can.has_roots.forms can.closed)
          (forms_append (new ∷ []) ys (frame, tt) (last_forms roots can.has_roots.forms));
      few = omega (arith, can.few, one_more xs ys new, ap length parts);
    } in
    let holds : HoldsBmffStore (with_store store roots) (insert_place roots) (c2pa_frame_len + length store) store = record {
      before = xs;
      holder = new;
      after = ys;
      split = refl;
      is_holder = holds_store store;
      whole = whole_store store can.is_store;
      bytes = sym (same_store store can.is_store);
      small = can.is_store.small;
      others_before = each_front (λ (b : Box). is_other_box b ≡ true) xs ys others;
      others_after = each_back (λ (b : Box). is_other_box b ≡ true) xs ys others;
      from = refl;
      for = sym (frame_len store);
    } in
    record {
      has_roots = has;
      holds = holds;
      left =
          ap (taken_out (insert_place roots) (c2pa_frame_len + length store)) file
          ∙ left_is xs ys new (c2pa_frame_len + length store) own ∙ sym was;
      base_is = record {
        boxes = with_store store roots;
        has_roots = has;
        are =
            without (insert_place roots) (c2pa_frame_len + length store) store holds
            (sym (ap (λ (t : Bool). cond t (xs ++ ys) (xs ++ freed new ∷ ys)) (last_is_end roots) ∙ parts));
        bytes = can.has_roots.bytes;
      };
      size = size;
    }

-- the base of a file is a file without a store
pub a_base_has_no_store_none : BaseHasNoStore
a_base_has_no_store_none = base_is_plain

-- the base of a file is a file without a store
pub a_base_has_no_store_cut : EndIsCutOut
a_base_has_no_store_cut = end_cut

-- the base of a file is a file without a store
pub a_base_has_no_store_freed : OthersKeepLengths
a_base_has_no_store_freed = lengths_kept

-- the base of a file is a file without a store
pub a_base_has_no_store_once : BaseIsOne
a_base_has_no_store_once = one_base

-- what the exclusions of a new BMFF hash leave of a file is told by its root boxes, and is the same with the store and without
pub a_put_store_is_not_covered_text : CoverIsBuiltText
a_put_store_is_not_covered_text = text_told

-- what the exclusions of a new BMFF hash leave of a file is told by its root boxes, and is the same with the store and without
pub a_put_store_is_not_covered_some : BuiltTextIsCovered
a_put_store_is_not_covered_some = built_cover

-- what the exclusions of a new BMFF hash leave of a file is told by its root boxes, and is the same with the store and without
pub a_put_store_is_not_covered_same : StoreIsNotCovered
a_put_store_is_not_covered_same = text_same
