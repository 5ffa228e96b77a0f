-- The box of a store, by the parts that are appended.
use Rattle.std.proofs.Common.{◌≡◌, ap, ◌∙◌, ℕ, ◌+◌, List, ◌++◌, length, arith}
use Rattle.c2_spec.specs.Bmff.Boxes.{box_bytes, header_bytes, short, uuid_kind}
use Rattle.c2_spec.specs.Bmff.Store.{c2pa_user_type}
use Rattle.c2_spec.specs.Bmff.Writing.{c2pa_box, c2pa_frame_len, c2pa_payload}
use Rattle.c2_bmff_boxes.specs.Appends.{before_store}

-- the parts of the box of a store
pub box_split : (header store : List ℕ) → header ≡ header_bytes short (c2pa_frame_len + length store) uuid_kind
    → header ++ (c2pa_user_type ++ (before_store ++ store)) ≡ box_bytes (c2pa_box store)
box_split header store e =
    let size : c2pa_frame_len + length store ≡ 8 + length (c2pa_payload store) = omega arith in
    ap (λ (h : List ℕ). h ++ c2pa_payload store) (e ∙ ap (λ (n : ℕ). header_bytes short n uuid_kind) size)
