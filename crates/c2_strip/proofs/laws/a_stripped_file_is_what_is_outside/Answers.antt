use Rattle.c2_strip.proofs.TheLaws.{a_stripped_file_is_what_is_outside}
use Rattle.c2_strip.proofs.laws.a_stripped_file_is_what_is_outside.Goals as goal

pub returns : goal.returns
returns c = a_stripped_file_is_what_is_outside
