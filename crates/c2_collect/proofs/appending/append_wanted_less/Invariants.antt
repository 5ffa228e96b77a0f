use Rattle.std.proofs.Common.{◌≡◌, ◌++◌, drop}
use Rattle.c2_collect.specs.Carried.{less_in, wanted_bytes, wanted_from}
use Rattle.c2_collect.proofs.appending.append_wanted_less.Given as goal

-- what is left is still to be appended
abbrev pub invariant-loop-i : goal.invariant-loop-i
invariant-loop-i l =
    l.out.items ++ wanted_from l.wanted l.i (drop l.i (less_in l.redactions l.side)) ≡ l.fn.out.items ++ wanted_bytes
    l.wanted (less_in l.redactions l.side)
