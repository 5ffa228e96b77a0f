use Rattle.c2_jumbf.proofs.laws.boxes_are_parts.Goals as goal
use Rattle.c2_spec.proofs.BoxParts.{box_part, contents_part}

pub returns-clause-whole : goal.returns-clause-whole
returns-clause-whole c = box_part

pub returns-clause-contents : goal.returns-clause-contents
returns-clause-contents c = contents_part
