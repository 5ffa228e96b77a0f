use Rattle.std.proofs.Common.{◌≡◌, ◌-◌, ◌++◌}
use Rattle.c2_spec.specs.Jumbf.Tree.{trees_bytes}
use Rattle.c2_spec.specs.Jumbf.Boxes.{box_at}
use Rattle.c2_parent.specs.Boxes.{ToCome, any_boxes, thin_rest}
use Rattle.c2_parent.specs.Named.{is_among}
use Rattle.c2_new_file_spec.specs.Redacting.{thin_boxes}
use Rattle.c2_parent.proofs.manifests.append_thinned.Given as goal

abbrev pub invariant-loop-at : goal.invariant-loop-at
invariant-loop-at l =
    ToCome l.tree l.at l.end
    (λ r. l.out.items ++ trees_bytes (thin_rest l.met (is_among l.named l.manifest) r) ≡ l.fn.out.items ++ trees_bytes (thin_boxes (is_among l.named l.manifest) (any_boxes (box_at l.tree l.i).box)))

abbrev pub decreases-loop-at : goal.decreases-loop-at
decreases-loop-at l = l.end - l.at
