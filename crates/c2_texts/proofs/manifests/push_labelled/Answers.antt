use Rattle.std.proofs.Common.{codes, map, rules, string_bytes}
use Rattle.std.specs.List.{filter_map}
use Rattle.c2_spec.specs.C2pa.Manifest.{superbox_at}
use Rattle.c2_texts.specs.Show.{box_data}
use Rattle.c2_texts.proofs.Pieces.{array_written}
use Rattle.c2_texts.proofs.manifests.push_labelled.Goals as goal

-- what was written is the array of the labelled boxes
pub returns : goal.returns
returns c =
    array_written (codes "{\"boxes\":") (string_bytes c.args.out.now) (string_bytes c.push_str.new.self) (string_bytes c.push_boxes.new.out) (string_bytes c.push.new.self) (filter_map box_data (map (superbox_at c.args.tree.now) c.args.boxes.now))
    c.in_ok-push_str.ensures.bytes c.in_ok-push_boxes.ensures (search rules)
