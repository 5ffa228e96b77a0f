use Rattle.std.proofs.Common.{map, option_map}
use Rattle.c2_rules.specs.Chains.{entry_label}
use Rattle.c2_check_ingredients.proofs.LabelLemmas.{kept_more}
use Rattle.c2_check_ingredients.proofs.bindings.push_labels.Goals as goal

-- with the label of one entry more, those that the entries so far list stand after what was there
pub loop-k-preserved : goal.loop-k-preserved
loop-k-preserved c =
    kept_more (entry_label c.args.own.now.manifest) c.args.entries.now c.loop-k.k c.index-entries-k.result
    (map (λ x. x.now) c.args.found.now.items) (map (λ x. x.now) c.loop-k.found.items)
    (map (λ x. x.now) c.push_label.new.found.items)
    (option_map (λ x. x.now) c.entry_label-name.result) c.loop-k-test.true c.index-entries-k.is c.loop-k.invariant
    c.in_ok-push_label.ensures c.entry_label-name.ensures
