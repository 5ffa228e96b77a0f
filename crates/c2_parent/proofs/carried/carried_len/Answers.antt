use Rattle.std.proofs.Common.{◌≡◌, ◌+◌, ℕ, ap, arith, length}
use Rattle.c2_spec.specs.Jumbf.Tree.{trees_bytes}
use Rattle.c2_new_file_spec.specs.Redacting.{boxes_in, redacted_boxes}
use Rattle.c2_parent.proofs.CarriedLemmas.{carried_bound}
use Rattle.c2_parent.proofs.Steps.{count_some, count_step}
use Rattle.c2_parent.proofs.Walking.{no_more_boxes}
use Rattle.c2_parent.proofs.carried.carried_len.Goals as goal

pub overflow_add-len : goal.overflow_add-len
overflow_add-len c =
    let t = c.args.tree.now in
    let all = length (trees_bytes (redacted_boxes c.args.redactions.now (boxes_in t))) in
    omega
    (arith, count_some t c.loop-at.at c.after-end.result c.loop-at.len all c.args.redactions.now c.loop-at.invariant c.loop-at-test.true, carried_bound c.args.redactions.now t, c.total-most.ensures, c.total-most.type_inv, c.redacted_len-more.ensures)

pub loop-at-preserved : goal.loop-at-preserved
loop-at-preserved c =
    let t = c.args.tree.now in
    let all = length (trees_bytes (redacted_boxes c.args.redactions.now (boxes_in t))) in
    count_step t c.loop-at.at c.after-end.result c.after-next.result c.loop-at.len
    (c.loop-at.len + c.redacted_len-more.result) all c.args.redactions.now c.loop-at.invariant c.loop-at-test.true
    (ap (λ (n : ℕ). c.loop-at.len + n) c.redacted_len-more.ensures) c.after-next.ensures.after

pub returns : goal.returns
returns c =
    let t = c.args.tree.now in
    let all = length (trees_bytes (redacted_boxes c.args.redactions.now (boxes_in t))) in
    let e =
    no_more_boxes t c.loop-at.at c.after-end.result
    (λ r. c.loop-at.len + length (trees_bytes (redacted_boxes c.args.redactions.now r)) ≡ all)
    c.loop-at.invariant c.loop-at-test.false in
    omega (arith, e)
