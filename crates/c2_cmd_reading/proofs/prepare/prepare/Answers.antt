use Rattle.c2_cmd_reading.specs.Reading.{PreparesFound, PreparesMedia}
use Rattle.c2_cmd_reading.proofs.Preparing.{prepares_media, prepares_short}
use Rattle.c2_cmd_outcome.proofs.Replying.{each_ok}
use Rattle.c2_cmd_reading.proofs.Replying.{stored_here, stored_reply}
use Rattle.c2_cmd_reading.proofs.prepare.prepare.Goals as goal

-- where known media have a store, what is asked over this store is what is asked of the media
pub returns-in-Here-clause-prepared : goal.returns-in-Here-clause-prepared
returns-in-Here-clause-prepared g c file known =
    each_ok (PreparesFound c.in-Here.found) (PreparesMedia file) c.prepare_found.result (λ p h. prepares_media file c.in-Here.found p (stored_here file _ c.in-Here.found c.in-Here.is (c.in_ok-found.ensures.stored file known)) h) c.prepare_found.ensures.prepared

-- where known media are refused or have no store, nothing is asked, and saying so is the outcome
pub returns-in-Reply-clause-prepared : goal.returns-in-Reply-clause-prepared
returns-in-Reply-clause-prepared g c file known =
    let short = stored_reply file _ c.in-Reply.reply c.in-Reply.is (c.in_ok-found.ensures.stored file known) in
    prepares_short file short.0 c.in-Reply.reply short.1 short.2
