use Rattle.std.proofs.Common.{◌≡◌, ◌++◌, false, map, drop, string_bytes}
use Rattle.std.specs.List.{filter_map}
use Rattle.c2_spec.specs.C2pa.Manifest.{superbox_at}
use Rattle.c2_texts.specs.Items.{items_inside}
use Rattle.c2_texts.specs.Show.{box_data}
use Rattle.c2_texts.proofs.manifests.push_boxes.Given as goal

-- what is written so far and the boxes to come are all boxes behind the text of the start
abbrev pub invariant-loop-i : goal.invariant-loop-i
invariant-loop-i l =
    string_bytes l.out ++ items_inside l.later (filter_map box_data (map (superbox_at l.tree) (drop l.i-index l.boxes)))
    ≡ string_bytes l.initial.out ++ items_inside false (filter_map box_data (map (superbox_at l.tree) l.boxes))
