use Rattle.c2_check_ingredients.proofs.BoundLemmas.{update_is}
use Rattle.c2_check_ingredients.proofs.bindings.check_update.Goals as goal

-- what fails first by a hash and one parent, found or not, fails first by the update's labels and boxes
pub returns : goal.returns
returns c =
    update_is c.args.own.now c.args.labels.now c.boxes.result.now c.has_hash-hash.result
    c.is_one_parent-one_parent.result c.check_parents.result c.has_hash-hash.ensures c.boxes.ensures
    c.is_one_parent-one_parent.ensures c.check_parents.ensures
