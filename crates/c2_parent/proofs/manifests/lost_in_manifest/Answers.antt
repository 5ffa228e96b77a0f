use Rattle.std.proofs.Common.{◌≡◌, ◌∙◌, sym}
use Rattle.c2_spec.specs.Jumbf.Boxes.{box_at}
use Rattle.c2_parent.specs.Boxes.{any_boxes, lost_in_store}
use Rattle.c2_parent.specs.Named.{is_among}
use Rattle.c2_parent.proofs.Steps.{store_here, store_step}
use Rattle.c2_parent.proofs.Walking.{no_more_boxes}
use Rattle.c2_parent.proofs.manifests.lost_in_manifest.Goals as goal

pub returns-then-is_assertion_store : goal.returns-then-is_assertion_store
returns-then-is_assertion_store c =
    let out = is_among c.args.named.now c.args.manifest.now in
    c.lost_len.ensures
    ∙ store_here c.args.tree.now c.loop-at.at c.after-end.result
    (lost_in_store out (any_boxes (box_at c.args.tree.now c.args.i).box)) out c.loop-at.invariant
    c.loop-at-test.true (sym c.is_assertion_store.ensures ∙ c.if-is_assertion_store.true)

pub loop-at-preserved : goal.loop-at-preserved
loop-at-preserved c =
    let out = is_among c.args.named.now c.args.manifest.now in
    store_step c.args.tree.now c.loop-at.at c.after-end.result c.after-next.result
    (lost_in_store out (any_boxes (box_at c.args.tree.now c.args.i).box)) out c.loop-at.invariant
    c.loop-at-test.true (sym c.is_assertion_store.ensures ∙ c.if-is_assertion_store.false)
    c.after-next.ensures.after

pub returns : goal.returns
returns c =
    let out = is_among c.args.named.now c.args.manifest.now in
    no_more_boxes c.args.tree.now c.loop-at.at c.after-end.result
    (λ r. lost_in_store out r ≡ lost_in_store out (any_boxes (box_at c.args.tree.now c.args.i).box))
    c.loop-at.invariant c.loop-at-test.false
