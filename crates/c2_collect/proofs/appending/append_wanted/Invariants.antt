use Rattle.std.proofs.Common.{◌≡◌, ◌++◌, drop}
use Rattle.c2_collect.specs.Carried.{wanted_bytes, wanted_from}
use Rattle.c2_collect.specs.Marked.{manifests_in}
use Rattle.c2_collect.proofs.appending.append_wanted.Given as goal

-- what is left is still to be appended
abbrev pub invariant-loop-i : goal.invariant-loop-i
invariant-loop-i l =
    l.out.items ++ wanted_from l.wanted l.i (drop l.i (manifests_in l.side)) ≡ l.fn.out.items ++ wanted_bytes l.wanted
    (manifests_in l.side)
