use Rattle.std.proofs.Common.{map}
use Rattle.c2_rules.specs.Rules.{hash_kind_test}
use Rattle.c2_read_manifests.specs.Placed.{seen_in}
use Rattle.c2_check_ingredients.proofs.BoundLemmas.{at_label}
use Rattle.c2_check_ingredients.proofs.LabelLemmas.{over_failed_at, over_held_at}
use Rattle.c2_check_ingredients.proofs.bindings.check_hash_kinds.Goals as goal

-- where the hash of this label is not refused either, what fails first is among the rest
pub loop-k-preserved : goal.loop-k-preserved
loop-k-preserved c =
    over_held_at (hash_kind_test (seen_in c.args.at.now c.args.own.now)) (map (λ x. x.now) c.args.labels.now) c.loop-k.k
    c.label_at-name.result.now c.is_refused.result c.label_at-name.ensures c.loop-k.invariant c.if-is_refused.false
    c.is_refused.ensures

-- where no label before it is refused, this label of another kind of hash fails first
pub returns-then-is_refused : goal.returns-then-is_refused
returns-then-is_refused c =
    over_failed_at (hash_kind_test (seen_in c.args.at.now c.args.own.now)) (map (λ x. x.now) c.args.labels.now)
    c.loop-k.k c.label_at-name.result.now c.is_refused.result c.at_assertion.result c.label_at-name.ensures
    c.loop-k.invariant
    c.if-is_refused.true c.is_refused.ensures
    (at_label c.at_assertion.result c.args.own.now c.label.result.now c.label_at-name.result.now c.label.ensures c.at_assertion.ensures)
