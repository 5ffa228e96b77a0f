use Rattle.c2_new_file_spec.proofs.StoreLaws.{manifests_are_boxes}
use Rattle.c2_new_file_spec.proofs.store.manifests_are_boxes.Goals as goal

pub returns : goal.returns
returns c = manifests_are_boxes
