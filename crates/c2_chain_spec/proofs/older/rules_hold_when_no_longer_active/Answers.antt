use Rattle.c2_chain_spec.proofs.older.rules_hold_when_no_longer_active.Goals as goal
use Rattle.c2_chain_spec.proofs.OlderRules.{when_inactive}

pub returns : goal.returns
returns c = when_inactive
