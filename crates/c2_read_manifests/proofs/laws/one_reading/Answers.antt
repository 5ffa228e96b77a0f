use Rattle.c2_read_manifests.proofs.TheLaws.{one_reading_manifest, one_reading_manifests, one_reading_store}
use Rattle.c2_read_manifests.proofs.laws.one_reading.Goals as goal

pub returns-clause-manifest : goal.returns-clause-manifest
returns-clause-manifest c = one_reading_manifest

pub returns-clause-manifests : goal.returns-clause-manifests
returns-clause-manifests c = one_reading_manifests

pub returns-clause-store : goal.returns-clause-store
returns-clause-store c = one_reading_store
