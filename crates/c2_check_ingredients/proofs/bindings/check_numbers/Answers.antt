use Rattle.c2_read_manifests.specs.Placed.{seen_in}
use Rattle.c2_check_ingredients.proofs.BoundLemmas.{numbers_are}
use Rattle.c2_check_ingredients.proofs.bindings.check_numbers.Goals as goal

-- what fails first by the counts fails first by the labels, the bindings and the boxes they were counted from
pub returns : goal.returns
returns c =
    numbers_are (seen_in c.args.at.now c.args.own.now) c.args.labels.now c.args.bindings.now c.boxes.result.now
    c.is_active-active.result c.has_other_hash-other.result c.count_parents-parents.result c.check_counts.result
    c.is_active-active.ensures c.has_other_hash-other.ensures c.boxes.ensures c.count_parents-parents.ensures
    c.check_counts.ensures
