use Rattle.std.proofs.Common.{ap}
use Rattle.c2_cmd_outcome.specs.Outcome.{reports}
use Rattle.c2_cmd_reading.specs.Reading.{ListsStore}
use Rattle.c2_cmd_outcome.specs.declared.types.Answer.TheVariants as answer
use Rattle.c2_cmd_outcome.proofs.Replying.{each_ok}
use Rattle.c2_cmd_reading.proofs.Listing.{lists_refused, lists_tree}
use Rattle.c2_cmd_reading.proofs.list.list_store.Goals as goal
use Rattle.c2_lemmas.proofs.Options.{from_ok_or}

-- a store whose bytes spell a box tree is answered with the list of its boxes
pub returns-in_ok-listing-in-Ok-clause-reply : goal.returns-in_ok-listing-in-Ok-clause-reply
returns-in_ok-listing-in-Ok-clause-reply c =
    lists_tree c.args.found.now _ _ (record { answer = answer.Done; text = c.in_ok-listing-in-Ok.field-0 }) c.as_slice.ensures.value c.in-Ok.ensures.ok (ap (λ text. reports answer.Done text) c.in_ok-listing-in-Ok.ensures)

-- a store whose bytes spell no box tree is answered as refused, with the reason and its number
pub returns-in_ok-refusal-in-Err-clause-reply : goal.returns-in_ok-refusal-in-Err-clause-reply
returns-in_ok-refusal-in-Err-clause-reply c =
    each_ok _ (ListsStore c.args.found.now) c.refused_reply.result (λ r out. lists_refused c.args.found.now _ _ _ _ r c.as_slice.ensures.value c.in-Err.ensures.err c.of_boxes.ensures (from_ok_or _ _ _ c.in_ok-refusal-in-Err.ensures.value) out) c.refused_reply.ensures.reply
