use Rattle.c2_opening.proofs.TheLaws.{one_media_once, one_media_read, one_media_stored}
use Rattle.c2_opening.proofs.laws.one_media.Goals as goal

pub returns-clause-once : goal.returns-clause-once
returns-clause-once c = one_media_once

pub returns-clause-read : goal.returns-clause-read
returns-clause-read c = one_media_read

pub returns-clause-stored : goal.returns-clause-stored
returns-clause-stored c = one_media_stored
