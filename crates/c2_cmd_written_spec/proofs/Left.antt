-- What a command leaves of a source, of the judges and of the file that it writes, where the call below it builds a new store.
use Rattle.std.proofs.Common.{◌≡◌, ◌≢◌, refl, sym, ap, ◌∙◌, subst, ℕ, Bool, List, map, Option}
use Rattle.std.specs.Prelude.{⊤, IfErr, IfOk, Ok, Err}
use Rattle.std.specs.declared.alloc.Global.{Global}
use Rattle.std.specs.declared.result.Result.{Result}
use Rattle.std.specs.declared.vec.Vec.{Vec}
use Rattle.c2_base.specs.Sink.{WritesSink, unsaid}
use Rattle.c2_base.specs.Source.{ReadsSource}
use Rattle.c2_base.specs.declared.values.Question.{Question}
use Rattle.c2_calls_spec.proofs.PanelLemmas.{hears_error, hears_later}
use Rattle.c2_copying.specs.Writing.{Ending, HasWritten, complete, read_fault, write_fault, untouched}
use Rattle.c2_build_refusals.specs.Kinds as kind
use Rattle.c2_build_refusals.specs.Kinds.{Effects, ErrorKind, IsSourceCause, build_heard, heard_of, kind_of}
use Rattle.c2_build_refusals.specs.Sinks.{EndsOut, IsOutCause}
use Rattle.c2_build_refusals.specs.declared.error.BuildError.{BuildError}
use Rattle.c2_rules.specs.Asking.{HasHeardSoFar, Heard, HearsPanel, IsJudgeCause, all, broken}
use Rattle.c2_spec.specs.Judges.Panel.{judges_of}
use Rattle.c2_spec.specs.declared.panel.Verdict.{Verdict}
use Rattle.c2_cmd_outcome.specs.Outcome.{Outcome}
use Rattle.c2_cmd_outcome.specs.Reply.{IsFaultOf, IsOutputCause, IsReplyTo, fault_heard, outcome_of}
use Rattle.c2_cmd_outcome.specs.declared.reply.Fault.{Fault}
use Rattle.c2_cmd_outcome.specs.declared.reply.Fault.TheVariants.{Memory}
use Rattle.c2_cmd_outcome.specs.declared.reply.Reply.{Reply}
use Rattle.c2_cmd_outcome.specs.declared.types.Answer.TheVariants as answer
use Rattle.c2_cmd_written_spec.specs.Builds.{IsBuildReply, build_says, kind_fault, refused_build, result_outcome, unless_fault}
use Rattle.c2_cmd_written_spec.specs.Written.{WritesOut}
use Rattle.c2_build_endings.specs.Endings.{build_ending}
use Rattle.c2_cmd_written_spec.proofs.Builds.{EffectsCause, build_ends, build_fits, build_reads, build_writes}
use Rattle.c2_cmd_written_spec.proofs.Calls.{ends_reply, reads_reply, writes_reply}

-- ---- what is left of a source and of the sink

-- what is left of a source of a build that does this
pub source_left : {S A : Type 0} (len : S → ℕ) (known : S → Option (List ℕ)) (faults : S → ℕ) (report : A → Outcome) (does : Effects) (Other : Type 0) (old new : S) (r : Result A BuildError) (reply : Result Reply Fault)
    → ReadsSource len known faults (λ m n e. IsSourceCause does Other m n (kind_of e)) old new r
    → IfOk reply (IsReplyTo (build_says report r)) → IfErr reply (IsFaultOf (build_says report r))
    → ReadsSource len known faults (EffectsCause does Other) old new reply
source_left len known faults report does Other old new r reply h reports fails =
    reads_reply len known faults (EffectsCause does Other) old new (build_says report r) reply
    tt h.stays (build_reads report does Other (faults old) (faults new) r h.quiet h.cause) reports fails

-- what is left of the sink of a build that writes a new file
pub sink_left : {K A : Type 0} (written : K → Option (List ℕ)) (finished : K → Bool) (faults : K → ℕ) (report : A → Outcome) (old new : K) (r : Result A BuildError) (reply : Result Reply Fault)
    → ((a : A) → (report a).answer ≡ answer.Done) → WritesSink written unsaid faults IsOutCause old new r
    → EndsOut finished old new r
    → IfOk reply (IsReplyTo (build_says report r)) → IfErr reply (IsFaultOf (build_says report r))
    → WritesOut written finished faults old new reply
sink_left written finished faults report old new r reply done h ends reports fails = record {
  writes = writes_reply written unsaid faults IsOutputCause old new (build_says report r) reply
      tt h.stays (build_writes report (faults old) (faults new) r h.quiet h.cause) reports fails;
  ends = ends_reply finished faults old new (build_ending r) (build_says report r) reply (build_fits report r done) (build_ends finished old new r ends)
      (build_writes report (faults old) (faults new) r h.quiet h.cause) reports fails;
}

-- what a call has written that writes the bytes of which this holds, where the same bytes are told in another way
pub written_as : {K : Type 0} (written : K → Option (List ℕ)) (finished : K → Bool) (P Q : List ℕ → Type 0) (old new : K) (e : Ending)
    → ((bytes : List ℕ) → P bytes → Q bytes) → ((bytes : List ℕ) → Q bytes → P bytes)
    → HasWritten written finished P old new e → HasWritten written finished Q old new e
written_as written finished P Q old new complete to back h = (h.0, to h.0 h.1, h.2)
written_as written finished P Q old new read_fault to back h = λ bytes w. h bytes (back bytes w)
written_as written finished P Q old new write_fault to back h = λ bytes w. h bytes (back bytes w)
written_as written finished P Q old new untouched to back h = tt

-- ---- what is replied

-- a reply to a build says that something is built, or refused: so it isn't that the words fit no command
pub built_words : {A : Type 0} (IsRefusal : BuildError → Type 0) (report : A → Outcome) (r : Result Reply Fault)
    → ((a : A) → (report a).answer ≡ answer.Done)
    → IfOk r (IsBuildReply IsRefusal report) → IfOk r (λ reply. reply.answer ≢ answer.Usage)
built_words {A} IsRefusal report (Ok reply) done h = by h.0 h.2
  where
    by : (s : Result A BuildError) → outcome_of reply ≡ result_outcome report s → reply.answer ≢ answer.Usage
    by (Ok a) out = λ usage. let both = sym (ap (λ (o : Outcome). o.answer) out ∙ done a) ∙ usage in cc (both)
    by (Err e) out = λ usage. let both = sym (ap (λ (o : Outcome). o.answer) out) ∙ usage in cc (both)
built_words IsRefusal report (Err f) done h = tt

-- ---- what judges heard

-- no judge fails where memory runs out under a reply
pub memory_unbroken : (r : Result Reply Fault) → IfErr r (λ e. e ≡ Memory) → IfErr r (λ e. fault_heard e ≢ broken)
memory_unbroken (Ok reply) h = tt
memory_unbroken (Err e) h = λ breaks. let both = sym (ap fault_heard h) ∙ breaks in absurd (cc (both))

module _ {J : Type 0} (says : J → Question → Verdict) (times faults : J → ℕ) (Asks : (Question → Verdict) → List Question → Type 0) (old new : Vec J Global) where
  -- a panel that was asked all, before whatever is answered where no judge failed
  heard_all : (k : ErrorKind) (r : Result Reply Fault) → heard_of k ≡ all → IfErr r (λ e. e ≡ Memory)
      → HearsPanel {T = ⊤} says times faults heard_of Asks old new (Err k)
      → HearsPanel says times faults fault_heard Asks old new r
  heard_all k r is memory h =
      hears_later {T = ⊤} {U = Reply} says times faults heard_of fault_heard Asks Asks old new tt r (memory_unbroken r memory) (λ qs asks. asks) (record {
        stays =
            record
            { same = h.stays.same; asked_later = h.stays.asked_later; faults_later = h.stays.faults_later; ok = subst (IsJudgeCause (map faults old.items) (map faults new.items)) is h.cause };
        len = h.len;
        cause = tt;
        asked =
            λ qs asks. subst (λ (w : Heard). HasHeardSoFar w qs (judges_of says times faults old.items) (judges_of says times faults new.items)) is (h.asked qs asks);
        unasked = h.unasked;
      })

  -- a panel that was asked as far as a fault tells
  heard_part : (k : ErrorKind) (f : Fault) (r : Result Reply Fault) → heard_of k ≡ fault_heard f
      → IfOk r (IsReplyTo (Err f)) → IfErr r (IsFaultOf (Err f))
      → HearsPanel {T = ⊤} says times faults heard_of Asks old new (Err k)
      → HearsPanel says times faults fault_heard Asks old new r
  heard_part k f (Ok reply) is reports fails h = absurd reports
  heard_part k f (Err e) is reports fails h =
      hears_error {T = ⊤} {U = Reply} says times faults heard_of fault_heard Asks Asks old new k e
      (is ∙ ap fault_heard (sym fails)) (λ qs asks. asks) h

  -- what is said of an error of this kind tells how far the panel was asked
  kind_panel : (k : ErrorKind) (o : Outcome) (r : Result Reply Fault)
      → IfOk r (IsReplyTo (unless_fault (kind_fault k) o)) → IfErr r (IsFaultOf (unless_fault (kind_fault k) o))
      → HearsPanel {T = ⊤} says times faults heard_of Asks old new (Err k)
      → HearsPanel says times faults fault_heard Asks old new r
  kind_panel kind.refusal o r reports fails h = heard_all kind.refusal r refl fails h
  kind_panel kind.message_refusal o r reports fails h = heard_all kind.message_refusal r refl fails h
  kind_panel kind.front_refusal o r reports fails h = heard_all kind.front_refusal r refl fails h
  kind_panel kind.older_refusal o r reports fails h = heard_all kind.older_refusal r refl fails h
  kind_panel kind.other_refusal o r reports fails h = heard_all kind.other_refusal r refl fails h
  kind_panel kind.read_fault o r reports fails h = heard_part kind.read_fault _ r refl reports fails h
  kind_panel kind.judge_fault o r reports fails h = heard_part kind.judge_fault _ r refl reports fails h
  kind_panel kind.write_fault o r reports fails h = heard_part kind.write_fault _ r refl reports fails h
  kind_panel kind.no_memory o r reports fails h = heard_part kind.no_memory _ r refl reports fails h

  -- the reply to a build leaves the judges as the build did
  pub panel_left : {A : Type 0} (report : A → Outcome) (r : Result A BuildError) (reply : Result Reply Fault)
      → HearsPanel says times faults build_heard Asks old new r
      → IfOk reply (IsReplyTo (build_says report r)) → IfErr reply (IsFaultOf (build_says report r))
      → HearsPanel says times faults fault_heard Asks old new reply
  panel_left report (Ok a) reply h reports fails =
      hears_later says times faults build_heard fault_heard Asks Asks old new a reply (memory_unbroken reply fails)
      (λ qs asks. asks) h
  panel_left {A} report (Err e) reply h reports fails =
      kind_panel (kind_of e) (refused_build e) reply reports fails
      (hears_error {T = A} {U = ⊤} says times faults build_heard heard_of Asks Asks old new e (kind_of e) refl (λ qs asks. asks) h)
