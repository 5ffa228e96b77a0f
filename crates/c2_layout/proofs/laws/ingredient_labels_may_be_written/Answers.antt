use Rattle.c2_layout.proofs.TheLaws.{ingredient_labels_may_be_written}
use Rattle.c2_layout.proofs.laws.ingredient_labels_may_be_written.Goals as goal

pub returns : goal.returns
returns c = ingredient_labels_may_be_written
