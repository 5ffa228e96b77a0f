use Rattle.c2_build_plain.proofs.RestoredLaws.{a_built_file_is_restored}
use Rattle.c2_build_plain.proofs.restored.a_built_file_is_restored.Goals as goal

pub returns : goal.returns
returns c = a_built_file_is_restored
