use Rattle.std.proofs.Common.{sym, ◌∙◌}
use Rattle.c2_rules.specs.Readings.{entries_in}
use Rattle.c2_rules.specs.Rules.{entry_tests}
use Rattle.c2_read_manifests.specs.Placed.{seen_in}
use Rattle.c2_check_claim.proofs.EntryLemmas.{entry_found, entry_passed}
use Rattle.c2_check_claim.proofs.entries.check_entries.Goals as goal

-- where all entries before it pass, what fails of this one fails first of all
pub returns-in-Some : goal.returns-in-Some
returns-in-Some g c =
    entry_found (entry_tests g.H.Hashing.digest_of (seen_in c.args.at.now c.args.own.now)) (entries_in c.args.own.now) c.loop-k.k c.entry_at-entry.result.now c.in-Some.failing c.entry_at-entry.ensures c.loop-k.invariant (sym c.in-Some.is ∙ c.in_ok-found.ensures)

-- where this entry passes too, what fails first of all entries is among the rest
pub loop-k-preserved : goal.loop-k-preserved
loop-k-preserved g c =
    entry_passed (entry_tests g.H.Hashing.digest_of (seen_in c.args.at.now c.args.own.now)) (entries_in c.args.own.now)
    c.loop-k.k c.entry_at-entry.result.now c.entry_at-entry.ensures c.loop-k.invariant
    (sym c.in_default.is ∙ c.in_ok-found.ensures)
