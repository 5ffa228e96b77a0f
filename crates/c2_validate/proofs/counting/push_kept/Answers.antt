use Rattle.std.proofs.Common.{length}
use Rattle.c2_rules.specs.Chains.{is_redacted}
use Rattle.c2_validate.specs.Counts.{keeps}
use Rattle.c2_validate.proofs.CountLemmas.{kept_next}
use Rattle.c2_validate.proofs.counting.push_kept.Goals as goal

-- one entry more is added, where it is kept
pub loop-k-preserved : goal.loop-k-preserved
loop-k-preserved c =
    kept_next (keeps (is_redacted c.args.chain.now.readings c.args.i) c.args.own.now.manifest) c.args.entries.now
    c.loop-k.k c.index-entries-k.result
    (length c.args.found.now.items) (length c.loop-k.found.items) (length c.push_if.new.found.items)
    c.is_kept-wanted.result c.loop-k-test.true c.index-entries-k.is c.loop-k.invariant c.in_ok-push_if.ensures
    c.is_kept-wanted.ensures
