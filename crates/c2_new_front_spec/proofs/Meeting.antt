-- The file with its new store in front meets the rules, by the laws of splits and of contents.
use Rattle.c2_bmff_chunks.proofs.TheLaws.{a_shifted_file_has_its_boxes_roots}
use Rattle.std.proofs.Common.{◌≡◌, ℕ, true, List, [], ◌∷◌, length, refl, subst, arith}
use Rattle.c2_base.specs.declared.values.Question.{Question}
use Rattle.c2_spec.specs.Bmff.Boxes.{Box, box_bytes}
use Rattle.c2_spec.specs.Bmff.Writing.{c2pa_box}
use Rattle.c2_spec.specs.C2pa.Sign1.{question_of}
use Rattle.c2_spec.specs.Container.{is_bmff}
use Rattle.c2_spec.specs.Jumbf.Tree.{Tree, tree_bytes}
use Rattle.c2_spec.specs.PutIn.{put_in}
use Rattle.c2_spec.specs.declared.digest.Alg.{Alg}
use Rattle.c2_bmff_chunks.specs.Laws.{HasShiftedRoots}
use Rattle.c2_bmff_chunks.specs.Shifted.{IsShifted}
use Rattle.c2_new_file_spec.specs.Fresh.{MeetsTheRules}
use Rattle.c2_new_file_spec.specs.Store.{new_alg, new_claim, new_store}
use Rattle.c2_new_file_spec.specs.Films.{new_bmff_binding, bmff_len, bmff_store_size}
use Rattle.c2_new_front_spec.specs.Fronts.{front_file, front_store, moved_media, moved_roots, tables_of}
use Rattle.c2_new_front_spec.specs.InFront.{front_place, others_text}
use Rattle.c2_new_front_spec.specs.Meeting.{FreshFrontMeets, front_question}
use Rattle.c2_new_content_spec.specs.Contents.{content_store}
use Rattle.c2_new_content_spec.specs.Splits.{HasRoomFor, split_text}
use Rattle.c2_new_front_spec.specs.Splits.{IsFrontSplit, front_split}
use Rattle.c2_new_content_spec.proofs.SplitLaws.{a_content_meets_the_rules_fresh, the_file_of_a_content_meets_the_rules}
use Rattle.c2_spec.proofs.Containers.{same_media}
use Rattle.c2_new_front_spec.proofs.Building.{media_shifts, open_by}
use Rattle.c2_new_front_spec.proofs.Splits.{front_split as first_split}

-- the file is built over it, at the split behind the first root box of that
pub fresh_front : FreshFrontMeets
fresh_front hash c message media roots parts digests is_fresh w can spells =
    let alg : Alg = new_alg c.definition in
    let h : List ℕ → List ℕ = hash alg in
    let len : ℕ = bmff_len c (length message) in
    let base : List ℕ = moved_media len media roots in
    let moved : List Box = moved_roots len media roots in
    let m = can.movable in
    let shifted : IsShifted (front_place roots) len (tables_of media roots) media base =
    media_shifts len media roots m in
    let boxes : HasShiftedRoots media base roots =
    a_shifted_file_has_its_boxes_roots (front_place roots) len media base roots m.bytes m.has_roots m.unrefused shifted in
    let film : is_bmff base ≡ true = same_media base media boxes.starts m.film boxes.has_roots.begins in
    let at : IsFrontSplit base moved = first_split base moved film boxes.has_roots (boxes.others m.none) in
    let room : HasRoomFor base (front_split moved) (bmff_store_size c (length message)) = record {
      split = at.split;
      room = at.room (open_by moved roots boxes.forms m.closed) (omega (arith, can.few, boxes.count));
      small = can.small;
      fits = omega (arith, can.fits, shifted.size);
    } in
    let text : split_text base (front_split moved) len ≡ others_text len moved = at.text len in
    let store : Tree = front_store h c message media roots in
    let met =
    the_file_of_a_content_meets_the_rules hash c message base
    (box_bytes (c2pa_box (tree_bytes (content_store h c message base (front_split moved)))))
    (front_split moved) parts [] digests
    (a_content_meets_the_rules_fresh hash c message parts is_fresh w spells)
    (record { room = room; free = at.free }) refl in
    let piece : List ℕ = box_bytes (c2pa_box (tree_bytes store)) in
    let file : put_in (front_place moved) piece base ≡ front_file h c message media roots = cc (boxes.first) in
    let qs : List Question = front_question h c (length message) media roots parts ∷ [] in
    subst (λ n. MeetsTheRules hash (front_file h c message media roots) n len store qs) boxes.first
    (subst (λ (f : List ℕ). MeetsTheRules hash f (front_place moved) len store qs) file
    (subst
    (λ (x : List ℕ).
    MeetsTheRules hash
    (put_in (front_place moved) (box_bytes (c2pa_box (tree_bytes (new_store h c (new_bmff_binding alg (h x)) message)))) base)
    (front_place moved) len (new_store h c (new_bmff_binding alg (h x)) message)
    (question_of parts (new_claim h c (new_bmff_binding alg (h x))) ∷ []))
    text met))
