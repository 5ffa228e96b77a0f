use Rattle.c2_spec.specs.Jumbf.Boxes.{box_at}
use Rattle.c2_new_file_spec.specs.Redacting.{thin_boxes}
use Rattle.c2_parent.specs.Boxes.{name_in}
use Rattle.c2_parent.specs.Named.{is_among}
use Rattle.c2_parent.proofs.Contents.{changed_whole}
use Rattle.c2_parent.proofs.manifests.append_manifest.Goals as goal
use Rattle.c2_lemmas.proofs.Results.{on_ok_then}

pub returns : goal.returns
returns c =
    let b = (box_at c.args.tree.now c.args.i).box in
    let out = is_among c.args.named.now (name_in b) in
    on_ok_then c.append_contents.result
    (λ h. changed_whole (thin_boxes out) b c.thinned_contents_len-len.result c.args.out.now.items c.append_head.new.out.items c.append_contents.new.out.items c.thinned_contents_len-len.ensures.size c.in_ok-append_head.ensures h)
    c.append_contents.ensures
