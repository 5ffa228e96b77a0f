use Rattle.std.proofs.Common.{◌≡◌, ◌++◌}
use Rattle.c2_spec.specs.Jumbf.Boxes.{box_at}
use Rattle.c2_spec.specs.Jumbf.Tree.{trees_bytes}
use Rattle.c2_new_file_spec.specs.Redacting.{thin_boxes}
use Rattle.c2_parent.specs.Boxes.{any_boxes, thin_rest}
use Rattle.c2_parent.specs.Named.{is_among}
use Rattle.c2_parent.proofs.Steps.{nothing_left, thin_step}
use Rattle.c2_parent.proofs.Walking.{no_more_boxes}
use Rattle.c2_parent.proofs.manifests.append_thinned.Goals as goal

pub loop-at-preserved : goal.loop-at-preserved
loop-at-preserved c =
    let out = is_among c.args.named.now c.args.manifest.now in
    thin_step c.args.tree.now c.loop-at.at c.after-end.result c.after-next.result c.loop-at.out.items
    c.append_child.new.out.items
    (c.args.out.now.items ++ trees_bytes (thin_boxes out (any_boxes (box_at c.args.tree.now c.args.i).box))) out
    c.loop-at.met c.in_ok-now.now
    c.loop-at.invariant c.loop-at-test.true c.in_ok-now.ensures.bytes c.in_ok-now.ensures.met c.after-next.ensures.after

pub returns : goal.returns
returns c =
    let out = is_among c.args.named.now c.args.manifest.now in
    nothing_left c.loop-at.met out c.loop-at.out.items
    (c.args.out.now.items ++ trees_bytes (thin_boxes out (any_boxes (box_at c.args.tree.now c.args.i).box)))
    (no_more_boxes c.args.tree.now c.loop-at.at c.after-end.result (λ r. c.loop-at.out.items ++ trees_bytes (thin_rest c.loop-at.met out r) ≡ c.args.out.now.items ++ trees_bytes (thin_boxes out (any_boxes (box_at c.args.tree.now c.args.i).box))) c.loop-at.invariant c.loop-at-test.false)
