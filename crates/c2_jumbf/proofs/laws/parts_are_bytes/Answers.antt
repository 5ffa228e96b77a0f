use Rattle.c2_jumbf.proofs.laws.parts_are_bytes.Goals as goal
use Rattle.c2_spec.proofs.BoxParts.{part_bytes, part_shorter}

pub returns-clause-bytes : goal.returns-clause-bytes
returns-clause-bytes c = part_bytes

pub returns-clause-shorter : goal.returns-clause-shorter
returns-clause-shorter c = part_shorter
