use Rattle.std.proofs.Common.{◌≡◌, ◌++◌, drop, map}
use Rattle.c2_new_file_spec.specs.Built.{no_digest}
use Rattle.c2_new_file_spec.specs.Store.{entry_of}
use Rattle.c2_layout.proofs.size.push_blank.Given as goal

-- with the references that are left, there will be all
abbrev pub invariant-loop-assertion : goal.invariant-loop-assertion
invariant-loop-assertion l =
    l.entries.items ++ map (entry_of (no_digest l.fn.alg)) (drop l.assertion-index l.all) ≡ l.initial.entries.items
    ++ map (entry_of (no_digest l.fn.alg)) l.all
