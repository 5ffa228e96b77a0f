use Rattle.c2_pad.proofs.TheLaws.{two_entries_only_where_one_is_not_enough}
use Rattle.c2_pad.proofs.laws.two_entries_only_where_one_is_not_enough.Goals as goal

pub returns : goal.returns
returns c = two_entries_only_where_one_is_not_enough
