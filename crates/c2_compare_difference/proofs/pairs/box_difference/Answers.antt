use Rattle.std.proofs.Common.{sym, ap, ◌∙◌}
use Rattle.c2_rules.specs.Chains.{label_in}
use Rattle.c2_rules.specs.Ingredients.{assertion_uri}
use Rattle.c2_rules.specs.Readings.{Reading}
use Rattle.c2_rules.specs.Rules.{alg_in}
use Rattle.c2_compare_spec.specs.Differences.{box_pair}
use Rattle.c2_compare_evidence.specs.Shown.{by_name}
use Rattle.c2_compare_difference.proofs.pairs.box_difference.Goals as goal

-- the pair of the boxes
pub returns : goal.returns
returns c =
    c.compare_lists.ensures (box_pair c.args.left.now c.args.right.now c.args.entry.now c.args.name.now)
    (ap by_name (ap (λ (r : Reading). alg_in r c.args.entry.now.alg) (sym c.owner-own.ensures) ∙ sym c.alg_name.ensures))
    (ap (λ (r : Reading). assertion_uri (label_in r) c.args.name.now) (sym c.owner-own.ensures) ∙ ap (λ l. assertion_uri l c.args.name.now) (sym c.label.ensures))
    (sym c.contents_with.ensures) (sym c.contents_with-2.ensures)
