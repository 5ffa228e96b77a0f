use Rattle.std.proofs.Common.{rules}
use Rattle.c2_read_manifests.proofs.RedactLemmas.{below_lent}
use Rattle.c2_read_manifests.proofs.redacted.fill_redacted.Goals as goal

-- with the redactions of the manifest at `n`, the sets are those of one manifest more
pub loop-n-preserved : goal.loop-n-preserved
loop-n-preserved c =
    below_lent c.args.all.now c.loop-n.n c.loop-n.sets.len c.loop-n.sets.items c.as_mut_slice.result.now
    c.redact_from.new.sets c.loop-n.invariant c.as_mut_slice.ensures.value c.in_ok-redact_from.ensures
    (search rules)
