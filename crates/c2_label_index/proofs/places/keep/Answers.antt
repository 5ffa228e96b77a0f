use Rattle.std.proofs.lemmas.Map.Text.{btree_map_updates_str}
use Rattle.c2_label_index.proofs.places.keep.Goals as goal

-- this label has this place now, and the others have theirs
pub returns : goal.returns
returns c =
    btree_map_updates_str c.args.label.now c.args.places.now.first c.insert.new.self _ c.in_ok-insert.ensures.updates
