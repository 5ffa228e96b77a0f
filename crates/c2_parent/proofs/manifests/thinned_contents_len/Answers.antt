use Rattle.std.proofs.Common.{ℕ, List, ap, arith, length, refl}
use Rattle.c2_spec.specs.Jumbf.Boxes.{box_at}
use Rattle.c2_new_file_spec.specs.Redacting.{thin_boxes}
use Rattle.c2_parent.specs.Boxes.{any_boxes, lost_in_store, name_in}
use Rattle.c2_parent.specs.Named.{is_among}
use Rattle.c2_parent.proofs.Contents.{boxes_size, changed_size, length-thin}
use Rattle.c2_parent.proofs.manifests.thinned_contents_len.Goals as goal

pub overflow_sub-result : goal.overflow_sub-result
overflow_sub-result c =
    let b = (box_at c.args.tree.now c.args.i).box in
    let out = is_among c.args.named.now c.name_of.result.now in
    omega (arith, length-thin out (any_boxes b), boxes_size b, ap length c.contents.ensures, c.lost_in_manifest.ensures)

pub returns-clause-size : goal.returns-clause-size
returns-clause-size c =
    let b = (box_at c.args.tree.now c.args.i).box in
    let out = is_among c.args.named.now (name_in b) in
    let same = ap (λ (m : List ℕ). lost_in_store (is_among c.args.named.now m) (any_boxes b)) c.name_of.ensures in
    omega
    (arith, changed_size (thin_boxes out) b (lost_in_store out (any_boxes b)) refl (length-thin out (any_boxes b)), ap length c.contents.ensures, c.lost_in_manifest.ensures, same)
