-- A new store isn't in the middle of a BMFF file.
use Rattle.c2_container.proofs.TheLaws.{each_media_file_is_located_once}
use Rattle.std.proofs.Common.{◌≡◌, ℕ, ◌+◌, ◌≤◌, Bool, true, false, not, ◌&&◌, List, length, take, drop}
use Rattle.std.proofs.Common.{sym, ap, ◌∙◌, arith}
use Rattle.std.specs.Str.{bytes_eq}
use Rattle.std.proofs.lemmas.List.{length-take-le, take-append-le, take-take}
use Rattle.c2_spec.specs.Bmff.Boxes.{begins_bmff}
use Rattle.c2_spec.specs.Bmff.Writing.{is_file_end}
use Rattle.c2_spec.specs.Container.{IsLocated, begins_jpeg, is_bmff}
use Rattle.c2_spec.specs.Jpeg.Segments.{start_of_image}
use Rattle.c2_spec.specs.Located.{Located, refused, absent, here}
use Rattle.c2_spec.specs.PutIn.{taken_out}
use Rattle.c2_new_file_spec.specs.Places.{IsPlace, Place, in_boxes, in_segments, place_start}
use Rattle.c2_strip.specs.Stripping.{IsMiddle}
use Rattle.c2_build_plain.proofs.AtTheEnd.{begins_inside, put_at_end}
use Rattle.c2_spec.proofs.Containers.{as_bmff}

-- the length of a range
len_of : Located → ℕ
len_of (refused r n) = 0
len_of absent = 0
len_of (here s l a) = l

-- a file that is a JPEG without a range behind its first two bytes is one
jpeg_before : (media file : List ℕ) (start len : ℕ) → taken_out start len file ≡ media → 2 ≤ start → start ≤ length file
    → begins_jpeg media ≡ true → is_bmff file ≡ false
jpeg_before media file start len left behind inside begins =
    let kept : List ℕ = take start file in
    let whole : 2 ≤ length kept = omega (arith, behind, length-take-le start file inside) in
    let front : take 2 (taken_out start len file) ≡ take 2 file =
    take-append-le 2 kept (drop (start + len) file) whole ∙ take-take 2 start file behind in
    let same : begins_jpeg file ≡ true =
    ap (λ (x : List ℕ). bytes_eq x start_of_image) (sym front ∙ ap (take 2) left) ∙ begins in
    ap (λ (b : Bool). not b && begins_bmff file) same

-- the new store isn't in the middle
pub not_middle : (media file : List ℕ) (start len : ℕ) (store : List ℕ) (p : Place) → IsPlace media p
    → start ≡ place_start p → taken_out start len file ≡ media → IsLocated file (here start len store)
    → IsMiddle file start → ⊥
unfolding len_of
not_middle media file start len store (in_boxes roots) is at left located m =
    let its : IsLocated file (here start m.len m.store) = as_bmff file (here start m.len m.store) m.is m.has in
    let same : len ≡ m.len =
    ap len_of (each_media_file_is_located_once file (here start len store) (here start m.len m.store) located its) in
    let less : taken_out start m.len file ≡ media = ap (λ (n : ℕ). taken_out start n file) (sym same) ∙ left in
    let ends : is_file_end m.has.holds.after ≡ true =
    put_at_end media file roots start m.len m.store is.1 m.has less at in
    let bad : true ≡ false = sym ends ∙ m.among in
    cc (bad)
not_middle media file start len store (in_segments segments number) is at left located m =
    let inside : start ≤ length file = begins_inside file start m.len m.store m.has in
    let begins : begins_jpeg media ≡ true = ap begins_jpeg is.1.begins.bytes in
    let bad : false ≡ true = sym (jpeg_before media file start len left (omega (arith, at)) inside begins) ∙ m.is in
    cc (bad)
