use Rattle.c2_sidecar.proofs.TheLaws.{each_file_is_extracted_each}
use Rattle.c2_sidecar.proofs.laws.each_file_is_extracted.Goals as goal

pub returns-clause-each : goal.returns-clause-each
returns-clause-each c = each_file_is_extracted_each
