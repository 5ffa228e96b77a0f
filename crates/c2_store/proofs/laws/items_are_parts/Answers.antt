use Rattle.c2_store.proofs.TheLaws.{items_are_parts_claim}
use Rattle.c2_store.proofs.laws.items_are_parts.Goals as goal
use Rattle.c2_spec.proofs.BoxParts.{item_part, manifests_parts}

pub returns-clause-item : goal.returns-clause-item
returns-clause-item c = item_part

pub returns-clause-manifests : goal.returns-clause-manifests
returns-clause-manifests c = manifests_parts

pub returns-clause-claim : goal.returns-clause-claim
returns-clause-claim c = items_are_parts_claim
