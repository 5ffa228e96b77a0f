use Rattle.c2_new_content_spec.proofs.SplitLaws.{a_store_is_at_its_split_piece, a_store_is_at_its_split_store}
use Rattle.c2_new_content_spec.proofs.split.a_store_is_at_its_split.Goals as goal

pub returns-clause-piece : goal.returns-clause-piece
returns-clause-piece c = a_store_is_at_its_split_piece

pub returns-clause-store : goal.returns-clause-store
returns-clause-store c = a_store_is_at_its_split_store
