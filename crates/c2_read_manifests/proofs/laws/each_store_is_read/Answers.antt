use Rattle.c2_read_manifests.proofs.TheLaws.{each_store_is_read_binding, each_store_is_read_manifests}
use Rattle.c2_read_manifests.proofs.laws.each_store_is_read.Goals as goal

pub returns-clause-manifests : goal.returns-clause-manifests
returns-clause-manifests c = each_store_is_read_manifests

pub returns-clause-binding : goal.returns-clause-binding
returns-clause-binding c = each_store_is_read_binding
