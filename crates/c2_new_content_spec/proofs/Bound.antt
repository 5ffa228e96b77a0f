-- The binding of a store is met in the file that it is put into at a split.
use Rattle.c2_assertion.proofs.TheLaws.{a_written_data_hash_has_one_length_known}
use Rattle.c2_bmff_insert_spec.proofs.TheLaws.{a_put_store_is_not_covered_some}
use Rattle.std.specs.Prelude.{is_none, is_some, not}
use Rattle.std.proofs.Common.{◌≡◌, ℕ, ◌+◌, ◌≤◌, true, List, [], ◌∷◌, ◌++◌, length, Option, Some, Ok, option_map, refl, sym, ap, ◌∙◌, subst, arith, bytes_eq, codes}
use Rattle.std.specs.declared.result.Result.{Result}
use Rattle.std.proofs.lemmas.Bool.{le-ltb, not_from_true}
use Rattle.std.proofs.lemmas.Option.{same_Some}
use Rattle.c2_base.specs.declared.values.Range.{Range}
use Rattle.c2_spec.specs.Bmff.Boxes.{Box, HasRoots, box_bytes, boxes_len}
use Rattle.c2_spec.specs.Bmff.Hash.{BmffHash}
use Rattle.c2_spec.specs.Bmff.Writing.{built_text, c2pa_box, c2pa_frame_len}
use Rattle.c2_spec.specs.Container.{bmff}
use Rattle.c2_spec.specs.Cover.{bad_range, data_text, excluded_positions}
use Rattle.c2_spec.specs.Digest.{alg_name, alg_named}
use Rattle.c2_spec.specs.Jpeg.Segments.{Segment, place_after}
use Rattle.c2_spec.specs.Jpeg.Writing.{packets_bytes, segments_len}
use Rattle.c2_spec.specs.PutIn.{put_in}
use Rattle.c2_spec.specs.declared.assertion.FieldError.{FieldError}
use Rattle.c2_spec.specs.declared.assertion.Kind.TheVariants as kinds
use Rattle.c2_spec.specs.declared.digest.Alg.{Alg}
use Rattle.c2_spec.proofs.Digests.{len_bounds, named_back}
use Rattle.c2_rules.specs.Binding as bound
use Rattle.c2_rules.specs.Binding.{Binding, IsMedia, IsBindingFrom, bound_tests}
use Rattle.c2_rules.specs.Chains.{label_in}
use Rattle.c2_rules.specs.Ingredients.{assertion_uri}
use Rattle.c2_rules.specs.Rules as rule
use Rattle.c2_rules.specs.Rules.{has_digest_by}
use Rattle.c2_rules.proofs.JpegMedia.{begins, is_jpeg_media, jpeg_media}
use Rattle.c2_assertion.specs.Written.{one_exclusion}
use Rattle.c2_bmff_insert_spec.specs.Laws.{HasBuiltCover}
use Rattle.c2_new_file_spec.specs.Built.{HasDigestLen}
use Rattle.c2_new_file_spec.specs.Store.{data_binding, range_at}
use Rattle.c2_new_file_spec.specs.Unbound.{IsBindingMet}
use Rattle.c2_rules.proofs.Conditions.{all_hold}
use Rattle.c2_new_file_spec.proofs.Texts.{name_utf8}
use Rattle.c2_new_file_spec.proofs.WrittenItems.{IsDataHash, data_read}
use Rattle.c2_new_file_spec.specs.Films.{new_bmff_binding, new_bmff_hash}
use Rattle.c2_new_file_spec.proofs.Items.{IsBmffHash, hash_read}
use Rattle.c2_new_content_spec.specs.Splits.{CanHold, CanNumber, boxes_text, of_boxes, of_segments, split_file}
use Rattle.c2_new_content_spec.proofs.SplitBoxes.{box_at, file_media}
use Rattle.c2_new_content_spec.proofs.Holding.{packets_are, segments_text}
use Rattle.c2_new_content_spec.proofs.Segments.{number_can, packets_at, packets_hold, segments_inside}
use Rattle.c2_new_content_spec.proofs.Texts.{text_at}
use Rattle.c2_new_file_spec.proofs.Put.{put_len}
use Rattle.c2_lemmas.proofs.Lists.{same_bytes}

-- ---- between segments

-- a range that ends in the file is in order
one_in_order : (size start len : ℕ) → start + len ≤ size → is_none (bad_range size (range_at start len ∷ [])) ≡ true
one_in_order size start len fits = rw (le-ltb start 0 (omega arith), le-ltb size (start + len) fits)

-- the binding to what the file has outside the packets is met
pub segments_met : (hash : Alg → List ℕ → List ℕ) (alg : Alg) (store base piece : List ℕ)
    (front back : List Segment) (number : Option ℕ)
    → HasDigestLen alg (hash alg) → CanHold base (of_segments front back number) store
    → option_map (packets_bytes store) number ≡ Some piece
    → IsBindingMet hash (data_binding alg (place_after front) (segments_len (length store)) (hash alg base)) (put_in (place_after front) piece base)
unfolding rule.label_kind
segments_met hash alg store base piece front back number g can put =
    let h : List ℕ → List ℕ = hash alg in
    let start : ℕ = place_after front in
    let len : ℕ = segments_len (length store) in
    let range : Range = range_at start len in
    let file : List ℕ = put_in start piece base in
    let en : ℕ = can.room.room.0 in
    let free : CanNumber back en = number_can front back number en can.room.room.1 can.room.split.1 in
    let inside : start ≤ length base = segments_inside base front back can.room.split.0 in
    let same : packets_bytes store en ≡ piece = packets_are number en store piece can.room.room.1 put in
    let count : length piece ≡ len =
    ap length (sym same) ∙ (packets_hold base front back number en store can free).size in
    let stored = packets_at base front back number en store can free in
    let is_data : IsDataHash (data_binding alg start len (h base)).bytes (one_exclusion (Some (alg_name alg)) (h base) range) =
    data_read (alg_name alg) (h base) range (name_utf8 alg)
    (omega (arith, inside, can.room.fits)) (omega (arith, can.room.fits))
    (omega (arith, a_written_data_hash_has_one_length_known alg (h base) range (g base), (len_bounds alg).1)) in
    let covered : data_text (range ∷ []) file ≡ base =
    segments_text base front back number store piece can put in
    let total : length file ≡ length base + length piece = put_len start piece base in
    let in_order : is_none (bad_range (length file) (range ∷ [])) ≡ true =
    one_in_order (length file) start len (omega (arith, total, count, inside)) in
    let digest : has_digest_by hash (alg_named (alg_name alg)) (data_text (range ∷ []) file) (h base) ≡ true =
    ap (λ o. has_digest_by hash o (data_text (range ∷ []) file) (h base)) (named_back alg)
    ∙ ap (λ (x : List ℕ). bytes_eq (h x) (h base)) covered ∙ same_bytes (h base) in
    let comes : Binding = record {
      alg = Some (alg_name alg);
      hash = h base;
      in_order = is_none (bad_range (length file) (range ∷ []));
      excluded = excluded_positions (range ∷ []) (length file);
      text = data_text (range ∷ []) file;
    } in
    record {
      media = jpeg_media file;
      is_media = subst (λ (x : List ℕ). IsMedia (put_in start x base) (jpeg_media (put_in start x base))) same
          (is_jpeg_media (put_in start (packets_bytes store en) base) (begins (put_in start (packets_bytes store en) base) stored.segments stored.rest stored.begins));
      item = is_data.item;
      has = is_data.has;
      comes = comes;
      is = ap (λ x. bound.data_binding file x) (sym is_data.is);
      holds = λ r. all_hold (bound_tests hash r (assertion_uri (label_in r) (codes "c2pa.hash.data")) kinds.DataHash (Ok comes))
          (ap (λ o. not (is_some o)) (named_back alg), (not_from_true _ in_order, (not_from_true _ digest, tt)));
    }

-- ---- between root boxes

-- the binding to what its exclusions leave of the file is met
boxes_met : (hash : Alg → List ℕ → List ℕ) (alg : Alg) (store base : List ℕ) (front back : List Box)
    → HasDigestLen alg (hash alg) → CanHold base (of_boxes front back) store
    → IsBindingMet hash (new_bmff_binding alg (hash alg (boxes_text (c2pa_frame_len + length store) front back)))
    (split_file base (of_boxes front back) (box_bytes (c2pa_box store)))
unfolding rule.label_kind
boxes_met hash alg store base front back g can =
    let h : List ℕ → List ℕ = hash alg in
    let covered : List ℕ = boxes_text (c2pa_frame_len + length store) front back in
    let boxes : List Box = front ++ c2pa_box store ∷ back in
    let file : List ℕ = split_file base (of_boxes front back) (box_bytes (c2pa_box store)) in
    let digest : List ℕ = h covered in
    let has : HasRoots file boxes = box_at base front back store can.room in
    let cover : HasBuiltCover boxes (length file) = a_put_store_is_not_covered_some file boxes (length file) has in
    let is_hash : IsBmffHash (new_bmff_binding alg digest).bytes (new_bmff_hash alg digest) =
    hash_read alg digest (g covered) in
    let comes : Binding =
    record { alg = Some (alg_name alg); hash = digest; in_order = true; excluded = cover.excluded; text = built_text boxes } in
    let text : built_text boxes ≡ covered = text_at base front back store can.room.split.1 in
    let same : bytes_eq (h (built_text boxes)) digest ≡ true =
    ap (λ (x : List ℕ). bytes_eq (h x) digest) text ∙ same_bytes digest in
    let right : has_digest_by hash (alg_named (alg_name alg)) (built_text boxes) digest ≡ true =
    ap (λ o. has_digest_by hash o (built_text boxes) digest) (named_back alg) ∙ same in
    record {
      media = record { bytes = file; container = bmff boxes };
      is_media = record { bytes = refl; container = (file_media base front back store can.room, has) };
      item = is_hash.item;
      has = is_hash.has;
      comes = comes;
      is =
          subst (λ (r : Result BmffHash FieldError). IsBindingFrom boxes (length file) r (Ok comes)) (sym is_hash.is)
          (record { alg = refl; hash = refl; in_order = refl; cover = cover.cover });
      holds = λ r. all_hold (bound_tests hash r (assertion_uri (label_in r) (codes "c2pa.hash.bmff.v2")) kinds.BmffHash (Ok comes))
          (ap (λ o. not (is_some o)) (named_back alg), (refl, (not_from_true _ right, tt)));
    }

-- what is put in is the store's box
pub bmff_met : (hash : Alg → List ℕ → List ℕ) (alg : Alg) (store base piece : List ℕ) (front back : List Box)
    → HasDigestLen alg (hash alg) → CanHold base (of_boxes front back) store
    → Some (box_bytes (c2pa_box store)) ≡ Some piece
    → IsBindingMet hash (new_bmff_binding alg (hash alg (boxes_text (c2pa_frame_len + length store) front back))) (split_file base (of_boxes front back) piece)
bmff_met hash alg store base piece front back g can put =
    subst
    (λ (x : List ℕ). IsBindingMet hash (new_bmff_binding alg (hash alg (boxes_text (c2pa_frame_len + length store) front back))) (put_in (boxes_len front) x base))
    (same_Some (box_bytes (c2pa_box store)) piece put) (boxes_met hash alg store base front back g can)
