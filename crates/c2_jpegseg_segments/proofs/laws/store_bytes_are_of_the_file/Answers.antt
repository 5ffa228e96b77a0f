use Rattle.c2_jpegseg_segments.proofs.TheLaws.{store_bytes_are_of_the_file_are_bytes, store_bytes_are_of_the_file_of_the_file}
use Rattle.c2_jpegseg_segments.proofs.laws.store_bytes_are_of_the_file.Goals as goal

pub returns-clause-of_the_file : goal.returns-clause-of_the_file
returns-clause-of_the_file c = store_bytes_are_of_the_file_of_the_file

pub returns-clause-are_bytes : goal.returns-clause-are_bytes
returns-clause-are_bytes c = store_bytes_are_of_the_file_are_bytes
