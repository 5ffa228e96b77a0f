use Rattle.std.proofs.Common.{ℕ, List, [], map, cond, option_map, Some, None}
use Rattle.c2_rules.specs.Rules.{is_binding, label_kind}
use Rattle.c2_check_ingredients.proofs.LabelLemmas.{kept_at, filter_all}
use Rattle.c2_check_ingredients.proofs.bindings.bindings.Goals as goal

-- with one label more, kept where it is a binding's, the bindings so far are those of the labels so far
pub loop-k-preserved : goal.loop-k-preserved
loop-k-preserved c =
    kept_at (λ (n : List ℕ). cond (is_binding (label_kind n)) (Some n) None) (map (λ x. x.now) c.args.labels.now)
    c.loop-k.k c.label_at.result.now [] (map (λ x. x.now) c.loop-k.found.items)
    (map (λ x. x.now) c.push_label.new.found.items)
    (option_map (λ x. x.now) c.binding_label-binding.result) c.label_at.ensures c.loop-k.invariant
    c.in_ok-push_label.ensures c.binding_label-binding.ensures

-- over all labels, what was kept are the labels of bindings of a kind that is known
pub returns : goal.returns
returns c =
    filter_all (λ (n : List ℕ). is_binding (label_kind n)) c.args.labels.now c.loop-k.k
    (map (λ x. x.now) c.loop-k.found.items) c.loop-k-test.false c.loop-k.invariant
