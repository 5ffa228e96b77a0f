use Rattle.std.proofs.Common.{◌≡◌, take, string_bytes}
use Rattle.std.specs.List.{flat_map}
use Rattle.c2_spec.specs.Jumbf.Boxes.{boxes_of, tree_count}
use Rattle.c2_texts.specs.Texts.{box_line}
use Rattle.c2_texts.proofs.tree.listing.Given as goal

-- the text so far has the lines of the first `i` boxes
abbrev pub invariant-boxes : goal.invariant-boxes
invariant-boxes l = record {
  end : l.i-end ≡ tree_count l.tree;
  lines : string_bytes l.text ≡ flat_map box_line (take l.i (boxes_of l.tree));
}
