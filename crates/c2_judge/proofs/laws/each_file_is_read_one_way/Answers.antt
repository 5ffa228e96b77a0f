use Rattle.c2_judge.proofs.TheLaws.{each_file_is_read_one_way_apart, each_file_is_read_one_way_one_line, each_file_is_read_one_way_one_list, each_file_is_read_one_way_some}
use Rattle.c2_judge.proofs.laws.each_file_is_read_one_way.Goals as goal

pub returns-clause-some : goal.returns-clause-some
returns-clause-some c = each_file_is_read_one_way_some

pub returns-clause-apart : goal.returns-clause-apart
returns-clause-apart c = each_file_is_read_one_way_apart

pub returns-clause-one_list : goal.returns-clause-one_list
returns-clause-one_list c = each_file_is_read_one_way_one_list

pub returns-clause-one_line : goal.returns-clause-one_line
returns-clause-one_line c = each_file_is_read_one_way_one_line
