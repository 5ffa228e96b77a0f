use Rattle.std.proofs.Common.{◌≡◌, ◌++◌, map, take}
use Rattle.c2_check_claim.proofs.labelled.push_entries.Given as goal

-- the entries that were passed stand after those that were there before
abbrev pub invariant-loop-k : goal.invariant-loop-k
invariant-loop-k l = map (λ x. x.now) l.found.items ≡ map (λ x. x.now) l.initial.found.items ++ take l.k l.entries
