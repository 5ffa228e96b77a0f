use Rattle.c2_bmff_boxes.proofs.Filling.{fill_headed}
use Rattle.c2_bmff_boxes.proofs.row_lists.roots_of.Goals as goal

-- rows that follow one another have headers
pub invariant_of-result : goal.invariant_of-result
invariant_of-result c = (fill_headed c.requires.size c.requires.low c.args.rows.items c.requires.fill, c.requires)
