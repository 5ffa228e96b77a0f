use Rattle.std.proofs.Common.{◌≡◌, ◌+◌, drop, length}
use Rattle.c2_collect.specs.Carried.{wanted_bytes, wanted_from}
use Rattle.c2_collect.specs.Marked.{manifests_in}
use Rattle.c2_collect.proofs.appending.wanted_len.Given as goal

-- so many bytes, and those of what is left
abbrev pub invariant-loop-i : goal.invariant-loop-i
invariant-loop-i l =
    l.len + length (wanted_from l.wanted l.i (drop l.i (manifests_in l.side))) ≡ length
    (wanted_bytes l.wanted (manifests_in l.side))
