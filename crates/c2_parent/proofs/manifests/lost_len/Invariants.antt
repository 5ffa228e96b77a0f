use Rattle.std.proofs.Common.{◌≡◌, ◌+◌, ◌-◌}
use Rattle.c2_spec.specs.Jumbf.Boxes.{box_at}
use Rattle.c2_parent.specs.Boxes.{ToCome, any_boxes, lost}
use Rattle.c2_parent.specs.Named.{is_among}
use Rattle.c2_parent.proofs.manifests.lost_len.Given as goal

abbrev pub invariant-loop-at : goal.invariant-loop-at
invariant-loop-at l =
    ToCome l.tree l.at l.end
    (λ r. l.len + lost (is_among l.named l.manifest) r ≡ lost (is_among l.named l.manifest) (any_boxes (box_at l.tree l.i).box))

abbrev pub decreases-loop-at : goal.decreases-loop-at
decreases-loop-at l = l.end - l.at
