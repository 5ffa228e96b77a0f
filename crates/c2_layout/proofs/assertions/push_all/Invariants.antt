use Rattle.std.proofs.Common.{◌≡◌, ◌++◌, drop, map}
use Rattle.c2_spec.specs.Jumbf.Tree.{trees_bytes}
use Rattle.c2_new_file_spec.specs.Store.{assertion_boxes, entry_of}
use Rattle.c2_layout.proofs.assertions.push_all.Given as goal

-- with the boxes and the references that are left, there will be all
abbrev pub invariant-loop-assertion : goal.invariant-loop-assertion
invariant-loop-assertion g l = record {
  boxes : l.boxes.items ++ trees_bytes (assertion_boxes (drop l.assertion-index l.all)) ≡ l.initial.boxes.items ++ trees_bytes (assertion_boxes l.all);
  entries : l.entries.items ++ map (entry_of (g.H.Hashing.digest_of l.alg)) (drop l.assertion-index l.all) ≡ l.initial.entries.items ++ map (entry_of (g.H.Hashing.digest_of l.alg)) l.all;
}
