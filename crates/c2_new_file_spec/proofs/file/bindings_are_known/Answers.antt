use Rattle.c2_new_file_spec.proofs.FileLaws.{bindings_are_known}
use Rattle.c2_new_file_spec.proofs.file.bindings_are_known.Goals as goal

pub returns : goal.returns
returns c = bindings_are_known
