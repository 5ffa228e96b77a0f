use Rattle.c2_chain_spec.proofs.older.rules_hold_without_redacted_boxes.Goals as goal
use Rattle.c2_chain_spec.proofs.OlderRules.{without_boxes}

pub returns : goal.returns
returns c = without_boxes
