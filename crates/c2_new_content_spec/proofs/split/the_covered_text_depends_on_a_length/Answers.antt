use Rattle.c2_new_content_spec.proofs.SplitLaws.{the_covered_text_depends_on_a_length_covered, the_covered_text_depends_on_a_length_once, the_covered_text_depends_on_a_length_roots, the_covered_text_depends_on_a_length_told}
use Rattle.c2_new_content_spec.proofs.split.the_covered_text_depends_on_a_length.Goals as goal

pub returns-clause-roots : goal.returns-clause-roots
returns-clause-roots c = the_covered_text_depends_on_a_length_roots

pub returns-clause-told : goal.returns-clause-told
returns-clause-told c = the_covered_text_depends_on_a_length_told

pub returns-clause-covered : goal.returns-clause-covered
returns-clause-covered c = the_covered_text_depends_on_a_length_covered

pub returns-clause-once : goal.returns-clause-once
returns-clause-once c = the_covered_text_depends_on_a_length_once
