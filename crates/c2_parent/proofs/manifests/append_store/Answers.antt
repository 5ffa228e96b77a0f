use Rattle.std.proofs.Common.{◌≡◌, ◌-◌, ap, arith, length, refl}
use Rattle.c2_spec.specs.Jumbf.Boxes.{box_at, any_contents}
use Rattle.c2_new_file_spec.specs.Redacting.{without}
use Rattle.c2_parent.specs.Boxes.{any_boxes, changed, lost}
use Rattle.c2_parent.specs.Named.{is_among}
use Rattle.c2_parent.proofs.Contents.{boxes_size, changed_appended, changed_size, length-without}
use Rattle.c2_parent.proofs.manifests.append_store.Goals as goal
use Rattle.c2_lemmas.proofs.Results.{on_ok_then}

pub overflow_sub-len : goal.overflow_sub-len
overflow_sub-len c =
    let b = (box_at c.args.tree.now c.args.i).box in
    let out = is_among c.args.named.now c.args.manifest.now in
    omega (arith, length-without out (any_boxes b), boxes_size b, ap length c.contents.ensures, c.lost_len.ensures)

pub returns : goal.returns
returns c =
    let b = (box_at c.args.tree.now c.args.i).box in
    let out = is_among c.args.named.now c.args.manifest.now in
    let size : length c.contents.result.now - c.lost_len.result ≡ length (any_contents (changed (without out) b)) =
    omega (arith, changed_size (without out) b (lost out (any_boxes b)) refl (length-without out (any_boxes b)), ap length c.contents.ensures, c.lost_len.ensures) in
    on_ok_then c.append_kept.result (λ h. changed_appended (without out) b (length c.contents.result.now - c.lost_len.result)
    c.args.out.now.items c.append_head.new.out.items c.append_front.new.out.items c.append_kept.new.out.items refl size
    c.in_ok-append_head.ensures c.in_ok-append_front.ensures h) c.append_kept.ensures
