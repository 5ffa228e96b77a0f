use Rattle.std.proofs.Common.{◌≡◌, ◌+◌, ℕ, ap, arith}
use Rattle.c2_spec.specs.Jumbf.Boxes.{box_at}
use Rattle.c2_parent.specs.Boxes.{any_boxes, lost}
use Rattle.c2_parent.specs.Named.{is_among}
use Rattle.c2_parent.proofs.Contents.{lost_bound}
use Rattle.c2_parent.proofs.Steps.{lost_some, lost_step}
use Rattle.c2_parent.proofs.Walking.{no_more_boxes}
use Rattle.c2_parent.proofs.manifests.lost_len.Goals as goal

pub overflow_add-len : goal.overflow_add-len
overflow_add-len c =
    let b = (box_at c.args.tree.now c.args.i).box in
    let out = is_among c.args.named.now c.args.manifest.now in
    omega
    (arith, lost_some c.args.tree.now c.loop-at.at c.after-end.result c.loop-at.len (lost out (any_boxes b)) out c.loop-at.invariant c.loop-at-test.true, lost_bound out b, c.total-most.ensures, c.total-most.type_inv, c.len_if_lost-more.ensures)

pub loop-at-preserved : goal.loop-at-preserved
loop-at-preserved c =
    let b = (box_at c.args.tree.now c.args.i).box in
    let out = is_among c.args.named.now c.args.manifest.now in
    lost_step c.args.tree.now c.loop-at.at c.after-end.result c.after-next.result c.loop-at.len
    (c.loop-at.len + c.len_if_lost-more.result) (lost out (any_boxes b)) out c.loop-at.invariant c.loop-at-test.true
    (ap (λ (n : ℕ). c.loop-at.len + n) c.len_if_lost-more.ensures) c.after-next.ensures.after

pub returns : goal.returns
returns c =
    let b = (box_at c.args.tree.now c.args.i).box in
    let out = is_among c.args.named.now c.args.manifest.now in
    let e =
    no_more_boxes c.args.tree.now c.loop-at.at c.after-end.result
    (λ r. c.loop-at.len + lost out r ≡ lost out (any_boxes b)) c.loop-at.invariant c.loop-at-test.false in
    omega (arith, e)
