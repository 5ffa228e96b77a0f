use Rattle.std.proofs.Common.{◌≡◌, map}
use Rattle.c2_base.specs.Causes.{Rose}
use Rattle.c2_spec.specs.Judges.Panel.{panel_says}
use Rattle.c2_calls_spec.proofs.PanelLemmas.{hears_error, hears_later}
use Rattle.c2_calls_spec.proofs.SinkLemmas.{writes_error, writes_then}
use Rattle.c2_calls_spec.proofs.SourceLemmas.{reads_error, reads_then}
use Rattle.c2_compare.specs.Comparing.{AsksCompared, compare_heard}
use Rattle.c2_compare_evidence.specs.Causes.{IsReadCauseBeside}
use Rattle.c2_cmd_outcome.specs.Reply.{IsInputCause, IsOutputCause, fault_heard}
use Rattle.c2_cmd_outcome.specs.declared.reply.Fault.{Fault}
use Rattle.c2_cmd_outcome.specs.declared.reply.Fault.TheVariants.{Judge}
use Rattle.c2_cmd_reading.proofs.Comparing.{fault_begins, reply_begins}
use Rattle.c2_cmd_reading.proofs.Faults.{comparison_cause, comparison_heard, judge_failed, memory_only, report_cause, unbroken}
use Rattle.c2_cmd_reading.proofs.compare.reply_to_compare.Goals as goal

-- ---- the files come to something

pub returns-in-Ok-clause-reply : goal.returns-in-Ok-clause-reply
returns-in-Ok-clause-reply g c a known b due =
    let said = panel_says (map (λ j. (goal.Judge-dyn g (j.vtable, j.value)).says j.value) c.args.judges.now.items) in
    reply_begins g.H.Hashing.digest_of said a b (g.W.Sink.written c.args.report.now) (g.W.Sink.written c.compare.new.report) c.in-Ok.what c.reply_to_compared.result (c.in-Ok.ensures.compared a known b due) c.reply_to_compared.ensures.reply

pub returns-in-Ok-clause-media : goal.returns-in-Ok-clause-media
returns-in-Ok-clause-media g c =
    let others = Rose (g.B.Source.faults c.args.second.now) (g.B.Source.faults c.compare.new.second) in
    reads_then g.A.Source.len g.A.Source.known g.A.Source.faults (IsReadCauseBeside (g.B.Source.faults c.args.second.now) (g.B.Source.faults c.compare.new.second)) (IsInputCause others) c.args.media.now c.compare.new.first c.in-Ok.what c.reply_to_compared.result
    (memory_only (IsInputCause others (g.A.Source.faults c.args.media.now) (g.A.Source.faults c.compare.new.first)) c.reply_to_compared.result tt c.reply_to_compared.ensures.memory) c.in-Ok.ensures.first

pub returns-in-Ok-clause-second : goal.returns-in-Ok-clause-second
returns-in-Ok-clause-second g c =
    let others = Rose (g.A.Source.faults c.args.media.now) (g.A.Source.faults c.compare.new.first) in
    reads_then g.B.Source.len g.B.Source.known g.B.Source.faults (IsReadCauseBeside (g.A.Source.faults c.args.media.now) (g.A.Source.faults c.compare.new.first)) (IsInputCause others) c.args.second.now c.compare.new.second c.in-Ok.what c.reply_to_compared.result
    (memory_only (IsInputCause others (g.B.Source.faults c.args.second.now) (g.B.Source.faults c.compare.new.second)) c.reply_to_compared.result tt c.reply_to_compared.ensures.memory) c.in-Ok.ensures.second

pub returns-in-Ok-clause-report : goal.returns-in-Ok-clause-report
returns-in-Ok-clause-report g c = record {
  writes = writes_then c.args.report.now c.compare.new.report c.in-Ok.what c.reply_to_compared.result
      (memory_only (IsOutputCause (g.W.Sink.faults c.args.report.now) (g.W.Sink.faults c.compare.new.report)) c.reply_to_compared.result tt c.reply_to_compared.ensures.memory) c.in-Ok.ensures.report;
  judged =
      memory_only (λ (f : Fault). f ≡ Judge → _) c.reply_to_compared.result (λ same. absurd (cc (same)))
      c.reply_to_compared.ensures.memory;
}

pub returns-in-Ok-clause-panel : goal.returns-in-Ok-clause-panel
returns-in-Ok-clause-panel g c =
    let Asks =
    AsksCompared g.H.Hashing.digest_of (g.A.Source.known c.args.media.now) (g.B.Source.known c.args.second.now) in
    hears_later _ _ _ compare_heard fault_heard Asks Asks c.args.judges.now c.compare.new.judges c.in-Ok.what c.reply_to_compared.result (unbroken c.reply_to_compared.result c.reply_to_compared.ensures.memory) (λ qs asks. asks) c.in-Ok.ensures.panel

-- ---- the comparison fails

pub returns-in-Err-clause-reply : goal.returns-in-Err-clause-reply
returns-in-Err-clause-reply g c a known b due =
    let said = panel_says (map (λ j. (goal.Judge-dyn g (j.vtable, j.value)).says j.value) c.args.judges.now.items) in
    fault_begins g.H.Hashing.digest_of said a b (g.W.Sink.written c.args.report.now) (g.W.Sink.written c.compare.new.report) c.in-Err.error c.fault.result (c.in-Err.ensures.compared a known b due)

pub returns-in-Err-clause-media : goal.returns-in-Err-clause-media
returns-in-Err-clause-media g c =
    reads_error g.A.Source.len g.A.Source.known g.A.Source.faults
    (IsReadCauseBeside (g.B.Source.faults c.args.second.now) (g.B.Source.faults c.compare.new.second))
    (IsInputCause (Rose (g.B.Source.faults c.args.second.now) (g.B.Source.faults c.compare.new.second)))
    c.args.media.now c.compare.new.first c.in-Err.error c.fault.result
    (comparison_cause (g.B.Source.faults c.args.second.now) (g.B.Source.faults c.compare.new.second) (g.A.Source.faults c.args.media.now) (g.A.Source.faults c.compare.new.first) c.in-Err.error c.fault.result c.fault.ensures) c.in-Err.ensures.first

pub returns-in-Err-clause-second : goal.returns-in-Err-clause-second
returns-in-Err-clause-second g c =
    reads_error g.B.Source.len g.B.Source.known g.B.Source.faults
    (IsReadCauseBeside (g.A.Source.faults c.args.media.now) (g.A.Source.faults c.compare.new.first))
    (IsInputCause (Rose (g.A.Source.faults c.args.media.now) (g.A.Source.faults c.compare.new.first)))
    c.args.second.now c.compare.new.second c.in-Err.error c.fault.result
    (comparison_cause (g.A.Source.faults c.args.media.now) (g.A.Source.faults c.compare.new.first) (g.B.Source.faults c.args.second.now) (g.B.Source.faults c.compare.new.second) c.in-Err.error c.fault.result c.fault.ensures) c.in-Err.ensures.second

pub returns-in-Err-clause-report : goal.returns-in-Err-clause-report
returns-in-Err-clause-report g c = record {
  writes = writes_error c.args.report.now c.compare.new.report c.in-Err.error c.fault.result
      (report_cause (g.W.Sink.faults c.args.report.now) (g.W.Sink.faults c.compare.new.report) c.in-Err.error c.fault.result c.fault.ensures) c.in-Err.ensures.report;
  judged = judge_failed _ c.in-Err.error c.fault.result c.fault.ensures c.in-Err.ensures.judged;
}

pub returns-in-Err-clause-panel : goal.returns-in-Err-clause-panel
returns-in-Err-clause-panel g c =
    let Asks =
    AsksCompared g.H.Hashing.digest_of (g.A.Source.known c.args.media.now) (g.B.Source.known c.args.second.now) in
    hears_error _ _ _ compare_heard fault_heard Asks Asks c.args.judges.now c.compare.new.judges c.in-Err.error c.fault.result (comparison_heard c.in-Err.error c.fault.result c.fault.ensures) (λ qs asks. asks) c.in-Err.ensures.panel
