use Rattle.c2_container.proofs.TheLaws.{each_media_file_is_located_are_bytes, each_media_file_is_located_located, each_media_file_is_located_once, each_media_file_is_located_small}
use Rattle.c2_container.proofs.laws.each_media_file_is_located.Goals as goal

pub returns-clause-located : goal.returns-clause-located
returns-clause-located c = each_media_file_is_located_located

pub returns-clause-once : goal.returns-clause-once
returns-clause-once c = each_media_file_is_located_once

pub returns-clause-are_bytes : goal.returns-clause-are_bytes
returns-clause-are_bytes c = each_media_file_is_located_are_bytes

pub returns-clause-small : goal.returns-clause-small
returns-clause-small c = each_media_file_is_located_small
