use Rattle.std.proofs.Common.{◌≡◌, drop}
use Rattle.c2_rules.specs.Readings.{entries_in}
use Rattle.c2_rules.specs.Rules.{entry_tests}
use Rattle.c2_read_manifests.specs.Placed.{seen_in}
use Rattle.c2_rules.specs.Tests.{each, first_failing}
use Rattle.c2_check_claim.proofs.entries.check_entries.Given as goal

-- the entries that were passed hold: what fails first of all is among the rest
abbrev pub invariant-loop-k : goal.invariant-loop-k
invariant-loop-k g l =
    let tests = entry_tests g.H.Hashing.digest_of (seen_in l.at l.own) in
    first_failing (each tests 0 (entries_in l.own)) ≡ first_failing (each tests l.k (drop l.k (entries_in l.own)))
