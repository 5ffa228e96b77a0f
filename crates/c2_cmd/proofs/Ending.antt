-- What a run leaves behind it, by the reply that it has.
use Rattle.std.proofs.Common.{◌≡◌, sym, ◌∙◌, ap, subst, inr, ℕ, ◌<◌, ◌^◌, Bool, true, List, Option, Some, None, string_bytes}
use Rattle.std.specs.Prelude.{All, Ok, Err}
use Rattle.std.specs.Option.{ForSome}
use Rattle.c2_base.specs.Causes.{Rose}
use Rattle.c2_base.specs.Sink.{HasWrittenPrefix}
use Rattle.c2_usage.specs.declared.types.Roles.{Roles}
use Rattle.c2_cmd_outcome.specs.Outcome.{Outcome}
use Rattle.c2_cmd_outcome.specs.Reply.{TakesFile, end_of}
use Rattle.c2_cmd_outcome.specs.Left.{Delivers, SinkState}
use Rattle.c2_cmd_outcome.specs.Status.{WithFault, status_of}
use Rattle.c2_cmd_outcome.specs.declared.reply.Fault.{Fault}
use Rattle.c2_cmd_outcome.specs.declared.reply.Reply.{Reply}
use Rattle.c2_cmd_outcome.specs.declared.types.Answer.{Answer}
use Rattle.c2_cmd_outcome.specs.declared.types.Answer.TheVariants as answer
use Rattle.c2_cmd_outcome.specs.declared.types.Status.{Status}
use Rattle.c2_cmd_outcome.specs.declared.types.Status.TheVariants.{InputFault, OutputFault, JudgeFault}
use Rattle.c2_cmd.specs.Left.{KeepsOut, LeavesOut}
use Rattle.c2_new_file_spec.specs.Fresh.{GivesDigests}
use Rattle.c2_cmd.specs.Outcome.{has_whole_report}
use Rattle.c2_cmd.specs.Run.{Call, ComesTo, Faults, HasAll, HasAnswered, IsCaused, RepliesTo, RunState, RunsTo, SinkFailed}
use Rattle.c2_cmd.proofs.Delivering.{asked_failed, asked_whole, comes_to, file_before, file_delivered, file_failed, first_filed, first_unwritten, no_fault, report_failed, undone, whole_answered, whole_failed, whole_where_filed, wrote_all, wrote_prefix}
use Rattle.c2_cmd.proofs.Causing.{no_output}
use Rattle.c2_cmd.proofs.Keeping.{unanswered, without}
use Rattle.c2_cmd_outcome.proofs.Replying.{written_behind}

-- ---- statuses of answers

-- a count that rose since it was left has risen
pub rose_since : (old mid new : ℕ) → mid ≡ old → Rose mid new → Rose old new
rose_since old mid new same rose = subst (λ (n : ℕ). Rose n new) same rose

-- nothing is promised for a fault by an answer
unfailed : (claim : Type 0) (a : Answer) → WithFault claim (status_of a)
unfailed claim answer.Done = tt
unfailed claim answer.Failing = tt
unfailed claim answer.Refused = tt
unfailed claim answer.NoStore = tt
unfailed claim answer.Usage = tt
unfailed claim answer.DifferentClaims = tt
unfailed claim answer.Evidence = tt
unfailed claim answer.BuildRefused = tt
unfailed claim answer.NotAccepted = tt
unfailed claim answer.StripRefused = tt

-- by its status
pub without_fault : (claim : Type 0) (a : Answer) (s : Status) → s ≡ status_of a → WithFault claim s
without_fault claim a s is = subst (λ (x : Status). WithFault claim x) (sym is) (unfailed claim a)

-- ---- the new file

-- what is left of it where the report failed
pub file_untold : {K : Type 0} {written : K → Option (List ℕ)} {finished : K → Bool} {faults : K → ℕ} {named : Bool}
    {F : Type 0} {old new : K} {reply : Reply} → F → LeavesOut written finished faults named old new (Ok reply)
    → KeepsOut written finished faults named F old new OutputFault
file_untold failed leaves = record {
  later = leaves.later;
  quiet = tt;
  grows = leaves.grows;
  unfinished = leaves.unfinished;
  ends = inr failed;
}

-- ---- whose fault it is

-- once the reply is delivered
pub cause_told : {roles : Option Roles} {f g : Faults} (reply : Reply) {s : Status} → s ≡ status_of reply.answer
    → IsCaused roles f (end_of (Ok reply)) → IsCaused roles g s
cause_told reply is h = record {
  usage = λ e. h.usage (sym is ∙ e);
  input = λ e. no_fault _ reply.answer _ InputFault is tt e;
  output = λ e. absurd (no_output reply.answer (sym is ∙ e));
  judge_fault = λ e. no_fault _ reply.answer _ JudgeFault is tt e;
}

-- where there is none
pub cause_failed : {roles : Option Roles} {f : Faults} {s t : Status} → s ≡ t → IsCaused roles f t → IsCaused roles f s
cause_failed {roles} {f} is h = subst (λ (x : Status). IsCaused roles f x) (sym is) h

-- where the report failed
pub cause_untold : {roles : Option Roles} {f : Faults} → SinkFailed roles f → IsCaused roles f OutputFault
cause_untold failed = record {
  usage = λ e. absurd (cc (e));
  input = λ e. absurd (cc (e));
  output = λ e. failed;
  judge_fault = λ e. absurd (cc (e));
}

-- ---- a run whose sources are known

-- a run whose sources are known has an outcome, and ends as that says
pub ends_known : {call : Call} {old new : RunState} {Same : Type 0} {s : Status}
    → ForSome call.known.media (All (λ b. b < 2 ^ 8)) → ForSome call.known.second (All (λ b. b < 2 ^ 8))
    → ForSome call.known.third (All (λ b. b < 2 ^ 8)) → ForSome call.known.fourth (All (λ b. b < 2 ^ 8))
    → GivesDigests call.hash
    → ((expected : Outcome) → ComesTo call expected → RunsTo call expected old new Same s)
    → (expected : Outcome) × ComesTo call expected × RunsTo call expected old new Same s
ends_known {call} media second third fourth gives runs =
    let e = comes_to call media second third fourth gives in (e.0, e.1, runs e.0 e.1)

-- a file that was taken with a reply is all there
has_all : (file : Option (List ℕ)) (reply : Reply) (old new : SinkState) → TakesFile file old new (Ok reply)
    → HasAll file old new
has_all None reply old new h = h
has_all (Some file) reply old new h = h

-- without a reply
pub runs_failed : {call : Call} {old new : RunState} {Same : Type 0} (f : Fault) {s : Status} → s ≡ end_of (Err f)
    → (has_whole_report call.roles ≡ true → new.report ≡ old.report) → RepliesTo call old new Same (Err f)
    → new.report.finished ≡ old.report.finished → (expected : Outcome) → ComesTo call expected
    → RunsTo call expected old new Same s
runs_failed {call} {old} {new} {Same} f is whole h unfinished expected comes =
    subst (λ (x : Status). RunsTo call expected old new Same x) (sym is)
    (record {
      report = report_failed f expected old.report new.report
          (record { prefix = h.reply expected comes; same = unfinished });
      file = file_failed f expected.file old.file new.file (h.file expected comes);
      order = first_unwritten expected.file old.report new.report old.file new.file
          (λ some. whole (whole_where_filed _ _ expected comes some));
      met = λ all. h.met (whole_failed (end_of (Err f)) old.file new.file (undone f) all);
      asked = λ qs asks. asked_failed f qs old.judges new.judges (h.asked qs asks);
      unasked = h.unasked;
      complete = unanswered (HasAnswered expected old new (end_of (Err f))) f;
    })

-- what is left once the report is written, behind a reply
abbrev pub told : RunState → SinkState → RunState
told mid report = record { report = report; file = mid.file; judges = mid.judges }

-- once the reply is delivered
pub runs_answered : {call : Call} (reply : Reply) (old mid : RunState) (report : SinkState)
    {Same : Type 0} {s : Status} → s ≡ status_of reply.answer → RepliesTo call old mid Same (Ok reply)
    → Delivers (string_bytes reply.text) mid.report report → (expected : Outcome) → ComesTo call expected
    → RunsTo call expected old (told mid report) Same s
runs_answered reply old mid report {s} is h delivered expected comes =
    let made = h.reply in
    let stands = made.stands expected comes in
    let all : Delivers expected.report old.report report = subst (λ (t : List ℕ). Delivers t old.report report)
    (sym stands.report) (record {
      written = written_behind old.report.written mid.report.written report.written
          made.before (string_bytes reply.text) made.written delivered.written;
      is_finished = delivered.is_finished;
    })
    in
    let answered : HasAnswered expected old (told mid report) s = record {
      status_is = is ∙ ap status_of (sym stands.answer);
      report = all;
      file = has_all expected.file reply old.file mid.file (h.file expected comes);
    } in record {
      report = wrote_all expected made.before reply old.report mid.report report s stands is made.written delivered;
      file = file_delivered expected.file reply old.file mid.file s is (h.file expected comes);
      order = first_filed expected.file reply old.report report old.file mid.file (h.file expected comes);
      met = λ whole. h.met (whole_answered reply.answer s old.file mid.file is whole);
      asked = λ qs asks. asked_whole qs old.judges mid.judges reply.answer s is (h.asked qs asks);
      unasked = h.unasked;
      complete = without (HasAnswered expected old (told mid report) s) s answered;
    }

-- where the report fails under the reply
pub runs_untold : {call : Call} (reply : Reply) (old mid : RunState) (report : SinkState)
    {Same : Type 0} → RepliesTo call old mid Same (Ok reply)
    → HasWrittenPrefix mid.report.written report.written (string_bytes reply.text)
    → report.finished ≡ old.report.finished → (expected : Outcome) → ComesTo call expected
    → RunsTo call expected old (told mid report) Same OutputFault
runs_untold reply old mid report h prefix unfinished expected comes =
    let made = h.reply in record {
      report = wrote_prefix expected made.before reply old.report mid.report report (made.stands expected comes)
          made.written prefix unfinished;
      file = file_before expected.file reply old.file mid.file (h.file expected comes);
      order = first_filed expected.file reply old.report report old.file mid.file (h.file expected comes);
      met = λ whole. h.met (inr (whole_failed OutputFault old.file mid.file (λ e. cc (e)) whole));
      asked = h.asked;
      unasked = h.unasked;
      complete = tt;
    }
