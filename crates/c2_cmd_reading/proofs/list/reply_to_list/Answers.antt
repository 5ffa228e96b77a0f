use Rattle.c2_cmd_reading.specs.Outcomes.{IsListOutcome}
use Rattle.c2_cmd_reading.specs.Reading.{ListsStore}
use Rattle.c2_cmd_outcome.specs.Reply.{outcome_of, Replies}
use Rattle.c2_cmd_reading.proofs.Replying.{boxed_outcome, short_boxed, stored_here, stored_reply}
use Rattle.c2_cmd_outcome.proofs.Replying.{each_ok}
use Rattle.c2_cmd_reading.proofs.list.reply_to_list.Goals as goal

-- where known media have a store, the reply over this store is the outcome of `list`
pub returns-in-Here-clause-reply : goal.returns-in-Here-clause-reply
returns-in-Here-clause-reply g c =
    each_ok (ListsStore c.in-Here.found) (Replies IsListOutcome (g.S.Source.known c.args.media.now)) c.list_store.result (λ r h file known.
    boxed_outcome file c.in-Here.found (outcome_of r) (stored_here file _ c.in-Here.found c.in-Here.is (c.in_ok-found.ensures.stored file known)) h) c.list_store.ensures.reply

-- where known media are refused or have no store, saying so is the outcome of `list`
pub returns-in-Reply-clause-reply : goal.returns-in-Reply-clause-reply
returns-in-Reply-clause-reply g c file known =
    let short = stored_reply file _ c.in-Reply.reply c.in-Reply.is (c.in_ok-found.ensures.stored file known) in
    short_boxed file short.0 (outcome_of c.in-Reply.reply) short.1 short.2
