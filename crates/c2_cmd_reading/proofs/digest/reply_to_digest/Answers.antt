use Rattle.std.proofs.Common.{◌∙◌, ap}
use Rattle.c2_calls_spec.proofs.SourceLemmas.{reads_next, reads_then}
use Rattle.c2_spec.specs.Located.{here}
use Rattle.c2_cmd_outcome.specs.Outcome.{reports}
use Rattle.c2_cmd_outcome.specs.Reply.{IsMediaCause, Replies}
use Rattle.c2_cmd_outcome.specs.declared.types.Answer.TheVariants as answer
use Rattle.c2_cmd_outcome.proofs.Replying.{each_ok, memory_cause, no_usage}
use Rattle.c2_texts.specs.Texts.{digest_line}
use Rattle.c2_cmd_reading.specs.Outcomes.{IsDigestOutcome}
use Rattle.c2_cmd_reading.proofs.Replying.{stored_here}
use Rattle.c2_cmd_reading.proofs.digest.reply_to_digest.Goals as goal

-- where the media are known, the reply is the digest of their bytes outside the embedded range
pub returns-clause-reply : goal.returns-clause-reply
returns-clause-reply g c =
    let hash = g.H.Hashing.digest_of c.args.alg in
    let found = c.in-Here.found in
    each_ok _ (Replies (IsDigestOutcome hash) (g.S.Source.known c.args.media.now)) c.digest_reply.result (λ r out file known.
    let digest = c.in_ok-digest.ensures.digest file (c.in_ok-found.ensures.media.stays.same_bytes ∙ known) in
    (here found.start found.length found.store, stored_here file _ found c.in-Here.is (c.in_ok-found.ensures.stored file known), out ∙ ap (λ d. reports answer.Done (digest_line found.start found.length d)) digest)) c.digest_reply.ensures.reply

-- a reply with a digest never says that the words fit no command
pub returns-clause-words : goal.returns-clause-words
returns-clause-words g c = each_ok _ _ c.digest_reply.result (λ r out. no_usage r _ out) c.digest_reply.ensures.reply

-- once the digest is made, the one fault left is that memory runs out
pub returns-clause-media : goal.returns-clause-media
returns-clause-media g c =
    reads_then g.S.Source.len g.S.Source.known g.S.Source.faults IsMediaCause IsMediaCause c.args.media.now
    c.digest_outside.new.source c.in_ok-digest.digest c.digest_reply.result
    (memory_cause _ _ c.digest_reply.result c.digest_reply.ensures.memory)
    (reads_next g.S.Source.len g.S.Source.known g.S.Source.faults IsMediaCause IsMediaCause c.args.media.now c.open.new.media c.digest_outside.new.source _ _ c.in_ok-found.ensures.media c.in_ok-digest.ensures.reads)
