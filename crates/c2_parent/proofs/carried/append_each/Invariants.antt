use Rattle.std.proofs.Common.{◌≡◌, ◌-◌, ◌++◌}
use Rattle.c2_spec.specs.Jumbf.Tree.{trees_bytes}
use Rattle.c2_parent.specs.Boxes.{ToCome}
use Rattle.c2_new_file_spec.specs.Redacting.{boxes_in, redacted_boxes}
use Rattle.c2_parent.proofs.carried.append_each.Given as goal

abbrev pub invariant-loop-at : goal.invariant-loop-at
invariant-loop-at l =
    ToCome l.tree l.at l.end
    (λ r. l.out.items ++ trees_bytes (redacted_boxes l.redactions r) ≡ l.fn.out.items ++ trees_bytes (redacted_boxes l.redactions (boxes_in l.tree)))

abbrev pub decreases-loop-at : goal.decreases-loop-at
decreases-loop-at l = l.end - l.at
