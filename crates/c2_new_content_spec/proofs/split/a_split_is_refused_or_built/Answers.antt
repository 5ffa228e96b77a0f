use Rattle.c2_new_content_spec.proofs.SplitLaws.{a_split_is_refused_or_built_built, a_split_is_refused_or_built_room, a_split_is_refused_or_built_unrefused}
use Rattle.c2_new_content_spec.proofs.split.a_split_is_refused_or_built.Goals as goal

pub returns-clause-room : goal.returns-clause-room
returns-clause-room c = a_split_is_refused_or_built_room

pub returns-clause-unrefused : goal.returns-clause-unrefused
returns-clause-unrefused c = a_split_is_refused_or_built_unrefused

pub returns-clause-built : goal.returns-clause-built
returns-clause-built c = a_split_is_refused_or_built_built
