use Rattle.c2_read_manifests.proofs.TheLaws.{labels_of_a_store_differ}
use Rattle.c2_read_manifests.proofs.laws.labels_of_a_store_differ.Goals as goal

pub returns : goal.returns
returns c = labels_of_a_store_differ
