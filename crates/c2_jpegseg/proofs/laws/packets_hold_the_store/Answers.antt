use Rattle.c2_jpegseg.proofs.TheLaws.{packets_hold_the_store}
use Rattle.c2_jpegseg.proofs.laws.packets_hold_the_store.Goals as goal

pub returns : goal.returns
returns c = packets_hold_the_store
