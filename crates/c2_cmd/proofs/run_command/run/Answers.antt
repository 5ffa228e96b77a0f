use Rattle.std.proofs.Common.{◌∙◌, ap, sym, inl, inr, refl, subst, take, string_bytes, arith}
use Rattle.c2_base.proofs.Growing.{grows_then}
use Rattle.c2_cmd_outcome.specs.Status.{HasNoReply}
use Rattle.c2_cmd_outcome.specs.Left.{state_of}
use Rattle.c2_cmd_outcome.specs.declared.types.Status.TheVariants.{JudgeFault}
use Rattle.c2_cmd.proofs.Delivering.{behind_answered, behind_left, no_end, no_fault}
use Rattle.c2_cmd.proofs.Keeping.{kept_out, kept_panel, kept_report, without}
use Rattle.c2_cmd.proofs.Leaving.{kept_sources, untold_panel, untold_sources}
use Rattle.c2_cmd.proofs.Ending.{cause_failed, cause_told, cause_untold, ends_known, file_untold, rose_since, runs_answered, runs_failed, runs_untold, without_fault}
use Rattle.c2_cmd.proofs.run_command.run.Goals as goal

-- ---- where the sources are known

-- without a reply
pub returns-in-Err-clause-known : goal.returns-in-Err-clause-known
returns-in-Err-clause-known g c known =
    ends_known (g.met.A.Source.known_bytes c.args.media.now)
    (g.met.B.Source.known_bytes c.args.second.now) (g.met.C.Source.known_bytes c.args.third.now)
    (g.met.D.Source.known_bytes c.args.fourth.now) g.met.H.Hashing.is_digest
    (runs_failed c.in-Err.fault c.fault_status.ensures
    (λ whole. ap (λ w. state_of g.W.Sink.written g.W.Sink.finished w) (c.in-Err.ensures.leaves.report.unwritten whole))
    (c.in-Err.ensures.known known) c.in-Err.ensures.leaves.report.unfinished)

-- once the reply is delivered
pub returns-in-Ok-deliver-clause-known : goal.returns-in-Ok-deliver-clause-known
returns-in-Ok-deliver-clause-known g c known =
    ends_known (g.met.A.Source.known_bytes c.args.media.now)
    (g.met.B.Source.known_bytes c.args.second.now) (g.met.C.Source.known_bytes c.args.third.now)
    (g.met.D.Source.known_bytes c.args.fourth.now) g.met.H.Hashing.is_digest
    (runs_answered c.in-Ok.reply _ _ _ c.status.ensures (c.in-Ok.ensures.known known)
    c.in-Ok-deliver.ensures.delivered)

-- where the report fails under it
pub returns-clause-known : goal.returns-clause-known
returns-clause-known g c known =
    ends_known (g.met.A.Source.known_bytes c.args.media.now)
    (g.met.B.Source.known_bytes c.args.second.now) (g.met.C.Source.known_bytes c.args.third.now)
    (g.met.D.Source.known_bytes c.args.fourth.now) g.met.H.Hashing.is_digest
    (runs_untold c.in-Ok.reply _ _ _ (c.in-Ok.ensures.known known) c.deliver.ensures.prefix
    (c.in-Err-deliver.ensures.unfinished ∙ c.in-Ok.ensures.leaves.report.unfinished))

-- ---- whose fault it is

-- without a reply
pub returns-in-Err-clause-cause : goal.returns-in-Err-clause-cause
returns-in-Err-clause-cause g c = cause_failed c.fault_status.ensures c.in-Err.ensures.cause

-- once the reply is delivered
pub returns-in-Ok-deliver-clause-cause : goal.returns-in-Ok-deliver-clause-cause
returns-in-Ok-deliver-clause-cause g c = cause_told c.in-Ok.reply c.status.ensures c.in-Ok.ensures.cause

-- where the report fails under it
pub returns-clause-cause : goal.returns-clause-cause
returns-clause-cause g c =
    cause_untold (inl (refl, rose_since _ _ _ c.in-Ok.ensures.leaves.report.quiet c.in-Err-deliver.ensures.cause.failed))

-- ---- what is left

-- without a reply
pub returns-in-Err-clause-sources : goal.returns-in-Err-clause-sources
returns-in-Err-clause-sources g c = kept_sources (sym c.fault_status.ensures) c.in-Err.ensures.leaves.sources

pub returns-in-Err-clause-out : goal.returns-in-Err-clause-out
returns-in-Err-clause-out g c =
    kept_out (sym c.fault_status.ensures) c.in-Err.ensures.leaves.out c.in-Err.ensures.unused.out

pub returns-in-Err-clause-report : goal.returns-in-Err-clause-report
returns-in-Err-clause-report g c =
    kept_report c.in-Err.fault c.fault_status.ensures c.in-Err.ensures.leaves.report
    (behind_left _ _ _ _ c.in-Err.ensures.leaves.report.unwritten c.in-Err.ensures.unused.out)

pub returns-in-Err-clause-judges : goal.returns-in-Err-clause-judges
returns-in-Err-clause-judges g c = kept_panel (sym c.fault_status.ensures) c.in-Err.ensures.leaves.judges

pub returns-in-Err-clause-unused : goal.returns-in-Err-clause-unused
returns-in-Err-clause-unused g c = c.in-Err.ensures.unused

-- once the reply is delivered
pub returns-in-Ok-deliver-clause-sources : goal.returns-in-Ok-deliver-clause-sources
returns-in-Ok-deliver-clause-sources g c = kept_sources (sym c.status.ensures) c.in-Ok.ensures.leaves.sources

pub returns-in-Ok-deliver-clause-out : goal.returns-in-Ok-deliver-clause-out
returns-in-Ok-deliver-clause-out g c =
    kept_out (sym c.status.ensures) c.in-Ok.ensures.leaves.out c.in-Ok.ensures.unused.out

pub returns-in-Ok-deliver-clause-report : goal.returns-in-Ok-deliver-clause-report
returns-in-Ok-deliver-clause-report g c = record {
  later = let first = c.in-Ok.ensures.leaves.report.later in let then = c.in-Ok-deliver.ensures.cause.later in omega
      (arith, first, then);
  quiet = without _ c.status.result (c.in-Ok-deliver.ensures.cause.ok ∙ c.in-Ok.ensures.leaves.report.quiet);
  grows = grows_then _ _ _ c.in-Ok.ensures.leaves.report.grows
      (string_bytes c.in-Ok.reply.text, c.in-Ok-deliver.ensures.delivered.written);
  is_finished = without _ c.status.result c.in-Ok-deliver.ensures.delivered.is_finished;
  unfinished = without_fault _ c.in-Ok.reply.answer c.status.result c.status.ensures;
  unwritten = λ whole none. absurd (no_end c.in-Ok.reply.answer (subst HasNoReply c.status.ensures none));
  judged = λ same. no_fault _ c.in-Ok.reply.answer c.status.result JudgeFault c.status.ensures tt same;
  behind = inr (behind_answered _ _ _ _ c.in-Ok.ensures.leaves.out.ends c.in-Ok.ensures.unused.out);
}

pub returns-in-Ok-deliver-clause-judges : goal.returns-in-Ok-deliver-clause-judges
returns-in-Ok-deliver-clause-judges g c = kept_panel (sym c.status.ensures) c.in-Ok.ensures.leaves.judges

pub returns-in-Ok-deliver-clause-unused : goal.returns-in-Ok-deliver-clause-unused
returns-in-Ok-deliver-clause-unused g c = c.in-Ok.ensures.unused

-- where the report fails under it
pub returns-clause-sources : goal.returns-clause-sources
returns-clause-sources g c = untold_sources c.in-Ok.ensures.leaves.sources

pub returns-clause-out : goal.returns-clause-out
returns-clause-out g c =
    file_untold (rose_since _ _ _ c.in-Ok.ensures.leaves.report.quiet c.in-Err-deliver.ensures.cause.failed)
    c.in-Ok.ensures.leaves.out

pub returns-clause-report : goal.returns-clause-report
returns-clause-report g c = record {
  later = let first = c.in-Ok.ensures.leaves.report.later in let then = c.in-Err-deliver.ensures.cause.later in omega
      (arith, first, then);
  quiet = tt;
  grows = grows_then _ _ _ c.in-Ok.ensures.leaves.report.grows
      (take c.deliver.ensures.prefix.0 (string_bytes c.in-Ok.reply.text), c.deliver.ensures.prefix.1);
  is_finished = tt;
  unfinished = c.in-Err-deliver.ensures.unfinished ∙ c.in-Ok.ensures.leaves.report.unfinished;
  unwritten = λ whole none. absurd none;
  judged = λ same. absurd (cc (same));
  behind = inr (behind_answered _ _ _ _ c.in-Ok.ensures.leaves.out.ends c.in-Ok.ensures.unused.out);
}

pub returns-clause-judges : goal.returns-clause-judges
returns-clause-judges g c = untold_panel c.in-Ok.ensures.leaves.judges

pub returns-clause-unused : goal.returns-clause-unused
returns-clause-unused g c = c.in-Ok.ensures.unused
