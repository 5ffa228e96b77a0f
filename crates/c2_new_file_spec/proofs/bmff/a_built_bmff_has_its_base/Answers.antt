use Rattle.c2_new_file_spec.proofs.BmffLaws.{a_built_bmff_has_its_base}
use Rattle.c2_new_file_spec.proofs.bmff.a_built_bmff_has_its_base.Goals as goal

pub returns : goal.returns
returns c = a_built_bmff_has_its_base
