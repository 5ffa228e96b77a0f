use Rattle.c2_rules.specs.Ingredients.{is_ingredient}
use Rattle.c2_rules.specs.Readings.{ReadBox}
use Rattle.c2_check_ingredients.proofs.LabelLemmas.{one_parent_yes}
use Rattle.c2_check_ingredients.proofs.bindings.is_one_parent.Goals as goal

-- where there is one ingredient box, it is a parent's just where an ingredient box reads as one
pub returns-then-count-eq1 : goal.returns-then-count-eq1
returns-then-count-eq1 c =
    one_parent_yes (λ (b : ReadBox). is_ingredient b.boxed) c.args.boxes.now c.count_ingredients-count.result
    c.has_parent-any.result c.count_ingredients-count.ensures c.has_parent-any.ensures c.if-count-eq1.true
