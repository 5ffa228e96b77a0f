use Rattle.c2_read_manifests.proofs.RedactLemmas.{none_more}
use Rattle.c2_read_manifests.proofs.redacted.empty_sets.Goals as goal

-- one set more, with no label in it
pub loop-k-preserved : goal.loop-k-preserved
loop-k-preserved c =
    none_more c.loop-k.k c.loop-k.sets.items c.push.new.self.items c.no_labels.result c.loop-k.invariant
    c.no_labels.ensures c.in_ok-push.ensures.items
