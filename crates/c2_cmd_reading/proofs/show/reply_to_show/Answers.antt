use Rattle.c2_cmd_reading.specs.Outcomes.{IsMediaOutcome, IsShown}
use Rattle.c2_cmd_outcome.specs.Reply.{outcome_of, Replies}
use Rattle.c2_cmd_reading.specs.Reading.{RepliesOver}
use Rattle.c2_cmd_outcome.proofs.Replying.{each_ok}
use Rattle.c2_cmd_reading.proofs.Replying.{media_outcome, media_short, stored_here, stored_reply}
use Rattle.c2_cmd_reading.proofs.show.reply_to_show.Goals as goal

-- where known media have a store, the reply over this store is the outcome of `show`
pub returns-in-Here-clause-reply : goal.returns-in-Here-clause-reply
returns-in-Here-clause-reply g c =
    each_ok (RepliesOver IsShown c.in-Here.found) (Replies (IsMediaOutcome IsShown) (g.S.Source.known c.args.media.now)) c.show_found.result (λ r h file known.
    media_outcome IsShown file c.in-Here.found (outcome_of r) (stored_here file _ c.in-Here.found c.in-Here.is (c.in_ok-found.ensures.stored file known)) h) c.show_found.ensures.reply

-- where known media are refused or have no store, saying so is the outcome of `show`
pub returns-in-Reply-clause-reply : goal.returns-in-Reply-clause-reply
returns-in-Reply-clause-reply g c file known =
    let short = stored_reply file _ c.in-Reply.reply c.in-Reply.is (c.in_ok-found.ensures.stored file known) in
    media_short IsShown file short.0 (outcome_of c.in-Reply.reply) short.1 short.2
