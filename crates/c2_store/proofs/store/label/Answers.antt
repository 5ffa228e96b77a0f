use Rattle.std.proofs.Common.{rules}
use Rattle.c2_spec.proofs.BoxesOfManifests.{whole_inside}
use Rattle.c2_spec.proofs.LabelsOfManifests.{labelled}
use Rattle.c2_store.proofs.store.label.Goals as goal

pub label_of-requires : goal.label_of-requires
label_of-requires c =
    whole_inside c.args.tree.now c.args.store.now c.args.i c.whole.result c.requires.same c.whole.ensures

pub returns-in-None : goal.returns-in-None
returns-in-None c =
    labelled c.args.tree.now c.args.store.now c.args.i c.whole.result c.requires.same c.whole.ensures (search rules)
