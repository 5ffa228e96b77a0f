use Rattle.std.proofs.Common.{ℕ, ◌<◌, ◌≤◌, subst}
use Rattle.c2_read_manifests.proofs.KeepingLemmas.{kept_more, kept_all}
use Rattle.c2_read_manifests.proofs.keeping.keep_store.Goals as goal

-- with one reading more, the readings are those of one manifest more
pub loop-i-preserved : goal.loop-i-preserved
loop-i-preserved c =
    kept_more c.args.tree.now c.args.store.now c.loop-i.i c.loop-i.kept.items c.push.new.self.items c.in_ok-own.own
    (subst (λ (n : ℕ). c.loop-i.i < n) c.manifest_count-i-end.ensures c.loop-i-test.true) c.loop-i.invariant
    c.in_ok-push.ensures.items c.in_ok-own.ensures

-- at the end they are the readings of all manifests of the store
pub returns : goal.returns
returns c =
    kept_all c.args.tree.now c.args.store.now c.loop-i.i c.loop-i.kept.items c.requires
    (subst (λ (n : ℕ). n ≤ c.loop-i.i) c.manifest_count-i-end.ensures c.loop-i-test.false) c.loop-i.invariant
