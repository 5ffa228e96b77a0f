use Rattle.std.proofs.Common.{◌≡◌, ◌++◌, ◌∙◌, append-nil, sym}
use Rattle.c2_spec.specs.Jumbf.Tree.{trees_bytes}
use Rattle.c2_new_file_spec.specs.Redacting.{boxes_in, redacted_boxes}
use Rattle.c2_parent.proofs.Steps.{carried_step}
use Rattle.c2_parent.proofs.Walking.{no_more_boxes}
use Rattle.c2_parent.proofs.carried.append_each.Goals as goal

pub loop-at-preserved : goal.loop-at-preserved
loop-at-preserved c =
    let t = c.args.tree.now in
    carried_step t c.loop-at.at c.after-end.result c.after-next.result c.loop-at.out.items
    c.append_redacted.new.out.items
    (c.args.out.now.items ++ trees_bytes (redacted_boxes c.args.redactions.now (boxes_in t))) c.args.redactions.now
    c.loop-at.invariant c.loop-at-test.true c.in_ok-append_redacted.ensures c.after-next.ensures.after

pub returns : goal.returns
returns c =
    let t = c.args.tree.now in
    sym (append-nil c.loop-at.out.items)
    ∙ no_more_boxes t c.loop-at.at c.after-end.result
    (λ r. c.loop-at.out.items ++ trees_bytes (redacted_boxes c.args.redactions.now r) ≡ c.args.out.now.items ++ trees_bytes (redacted_boxes c.args.redactions.now (boxes_in t)))
    c.loop-at.invariant c.loop-at-test.false
