use Rattle.std.proofs.Common.{map}
use Rattle.c2_base.specs.Causes.{Rose}
use Rattle.c2_spec.specs.Judges.Panel.{panel_says}
use Rattle.c2_calls_spec.proofs.PanelLemmas.{hears_error, hears_later}
use Rattle.c2_calls_spec.proofs.SourceLemmas.{reads_error, reads_then}
use Rattle.c2_sidecar.specs.Checking.{AsksWhereDue, IsSourceCause}
use Rattle.c2_validate.specs.Checked.{validate_heard}
use Rattle.c2_cmd_outcome.specs.Reply.{IsReadingCause, fault_heard, outcome_of}
use Rattle.c2_cmd_outcome.specs.declared.reply.Reply.{Reply}
use Rattle.c2_cmd_outcome.proofs.Replying.{each_ok}
use Rattle.c2_cmd_reading.specs.Outcomes.{IsExternalOutcome}
use Rattle.c2_cmd_reading.proofs.Faults.{check_heard, external_cause, memory_only, unbroken}
use Rattle.c2_cmd_reading.proofs.external.reply_to_validate_external.Goals as goal

-- ---- the check answers

pub returns-in-Ok-clause-reply : goal.returns-in-Ok-clause-reply
returns-in-Ok-clause-reply g c = λ a known b due.
    let said = panel_says (map (λ j. (goal.Judge-dyn g (j.vtable, j.value)).says j.value) c.args.judges.now.items) in
    each_ok _ (λ (r : Reply). IsExternalOutcome g.H.Hashing.digest_of said a b (outcome_of r)) c.external_reply.result (λ r out.
    (c.in-Ok.answer, (c.in-Ok.ensures.answer a known b due).is, out)) c.external_reply.ensures.reply

pub returns-in-Ok-clause-media : goal.returns-in-Ok-clause-media
returns-in-Ok-clause-media g c =
    let others = Rose (g.B.Source.faults c.args.second.now) (g.B.Source.faults c.validate_external.new.store) in
    reads_then g.A.Source.len g.A.Source.known g.A.Source.faults (IsSourceCause (g.B.Source.faults c.args.second.now) (g.B.Source.faults c.validate_external.new.store)) (IsReadingCause others) c.args.media.now c.validate_external.new.source c.in-Ok.answer c.external_reply.result
    (memory_only (IsReadingCause others (g.A.Source.faults c.args.media.now) (g.A.Source.faults c.validate_external.new.source)) c.external_reply.result tt c.external_reply.ensures.memory) c.in-Ok.ensures.source

pub returns-in-Ok-clause-second : goal.returns-in-Ok-clause-second
returns-in-Ok-clause-second g c =
    let others = Rose (g.A.Source.faults c.args.media.now) (g.A.Source.faults c.validate_external.new.source) in
    reads_then g.B.Source.len g.B.Source.known g.B.Source.faults (IsSourceCause (g.A.Source.faults c.args.media.now) (g.A.Source.faults c.validate_external.new.source)) (IsReadingCause others) c.args.second.now c.validate_external.new.store c.in-Ok.answer c.external_reply.result
    (memory_only (IsReadingCause others (g.B.Source.faults c.args.second.now) (g.B.Source.faults c.validate_external.new.store)) c.external_reply.result tt c.external_reply.ensures.memory) c.in-Ok.ensures.store

pub returns-in-Ok-clause-panel : goal.returns-in-Ok-clause-panel
returns-in-Ok-clause-panel g c =
    let Asks =
    AsksWhereDue g.H.Hashing.digest_of (g.A.Source.known c.args.media.now) (g.B.Source.known c.args.second.now) in
    hears_later _ _ _ validate_heard fault_heard Asks Asks c.args.judges.now c.validate_external.new.judges c.in-Ok.answer c.external_reply.result (unbroken c.external_reply.result c.external_reply.ensures.memory) (λ qs asks. asks) c.in-Ok.ensures.panel

-- ---- it fails

pub returns-in-Err-clause-media : goal.returns-in-Err-clause-media
returns-in-Err-clause-media g c =
    reads_error g.A.Source.len g.A.Source.known g.A.Source.faults
    (IsSourceCause (g.B.Source.faults c.args.second.now) (g.B.Source.faults c.validate_external.new.store))
    (IsReadingCause (Rose (g.B.Source.faults c.args.second.now) (g.B.Source.faults c.validate_external.new.store)))
    c.args.media.now c.validate_external.new.source c.in-Err.error c.from.result
    (external_cause (g.B.Source.faults c.args.second.now) (g.B.Source.faults c.validate_external.new.store) (g.A.Source.faults c.args.media.now) (g.A.Source.faults c.validate_external.new.source) c.in-Err.error c.from.result c.from.ensures) c.in-Err.ensures.source

pub returns-in-Err-clause-second : goal.returns-in-Err-clause-second
returns-in-Err-clause-second g c =
    reads_error g.B.Source.len g.B.Source.known g.B.Source.faults
    (IsSourceCause (g.A.Source.faults c.args.media.now) (g.A.Source.faults c.validate_external.new.source))
    (IsReadingCause (Rose (g.A.Source.faults c.args.media.now) (g.A.Source.faults c.validate_external.new.source)))
    c.args.second.now c.validate_external.new.store c.in-Err.error c.from.result
    (external_cause (g.A.Source.faults c.args.media.now) (g.A.Source.faults c.validate_external.new.source) (g.B.Source.faults c.args.second.now) (g.B.Source.faults c.validate_external.new.store) c.in-Err.error c.from.result c.from.ensures) c.in-Err.ensures.store

pub returns-in-Err-clause-panel : goal.returns-in-Err-clause-panel
returns-in-Err-clause-panel g c =
    let Asks =
    AsksWhereDue g.H.Hashing.digest_of (g.A.Source.known c.args.media.now) (g.B.Source.known c.args.second.now) in
    hears_error _ _ _ validate_heard fault_heard Asks Asks c.args.judges.now c.validate_external.new.judges c.in-Err.error c.from.result (check_heard c.in-Err.error c.from.result c.from.ensures) (λ qs asks. asks) c.in-Err.ensures.panel
