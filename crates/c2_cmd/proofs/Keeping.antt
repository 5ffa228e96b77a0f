-- What is left of an object: of one that a command uses, and of one that it doesn't.
use Rattle.std.proofs.Common.{◌≡◌, refl, sym, ◌∙◌, ap, subst, inl, inr, ◌⊎◌, ℕ, Bool, true, false, List, Option, Some, arith}
use Rattle.std.specs.Prelude.{IfErr, OnOk, Ok, Err, Result}
use Rattle.std.proofs.lemmas.Bool.{false≢true}
use Rattle.c2_base.specs.Sink.{WritesSink, unsaid}
use Rattle.c2_calls_spec.proofs.SourceLemmas.{stays_as_it_was}
use Rattle.c2_spec.specs.Judges.Panel.{Judges, LeavesJudges, NoneFell}
use Rattle.c2_usage.specs.CommandLine.{has_word, is_fourth, is_media, is_out, is_second, is_third, lets_ask}
use Rattle.c2_usage.specs.declared.types.Command.{Command}
use Rattle.c2_usage.specs.declared.types.Role.{Role}
use Rattle.c2_usage.specs.declared.types.Roles.{Roles}
use Rattle.c2_cmd_outcome.specs.Reply.{EndsFile, FileEnd, end_of}
use Rattle.c2_cmd.specs.Left.{FileEnds, KeepsOut, KeepsJudges, KeepsReport, KeepsSource, LeavesOut, LeavesReport, LeavesSource}
use Rattle.c2_cmd.specs.Outcome.{names}
use Rattle.c2_cmd.specs.Run.{Call, HasNotDue, IsUnused, LeavesUnused, Untouched}
use Rattle.c2_cmd.specs.Sources.{SourceName, is_source, of_source, the_fourth, the_media, the_second, the_third}
use Rattle.c2_cmd.proofs.Commands.{of_command}
use Rattle.c2_cmd_outcome.specs.Status.{WithFault, IfAnswered, status_of}
use Rattle.c2_cmd_outcome.specs.declared.reply.Fault.{Fault}
use Rattle.c2_cmd_outcome.specs.declared.reply.Fault.TheVariants.{Input, Output, Judge, Memory}
use Rattle.c2_cmd_outcome.specs.declared.reply.Reply.{Reply}
use Rattle.c2_cmd_outcome.specs.declared.types.Answer.{Answer}
use Rattle.c2_cmd_outcome.specs.declared.types.Answer.TheVariants as answer
use Rattle.c2_cmd_outcome.specs.declared.types.Status.{Status}
use Rattle.c2_cmd_outcome.specs.declared.types.Status.TheVariants.{Done, Failing, Refused, NoStore, Usage, InputFault, OutputFault, JudgeFault, NoMemory, DifferentClaims, Evidence, BuildRefused, NotAccepted, StripRefused}
use Rattle.c2_base.proofs.Written.{grows_none}

-- ---- statuses

-- what holds anyway holds after every answer but a fault
pub without : (claim : Type 0) (s : Status) → claim → IfAnswered claim s
without claim Done h = h
without claim Failing h = h
without claim Refused h = h
without claim NoStore h = h
without claim Usage h = h
without claim InputFault h = tt
without claim OutputFault h = tt
without claim JudgeFault h = tt
without claim NoMemory h = tt
without claim DifferentClaims h = h
without claim Evidence h = h
without claim BuildRefused h = h
without claim NotAccepted h = h
without claim StripRefused h = h

-- what holds of an `Ok` holds after every answer but a fault
pub quiet_end : (claim : Type 0) (r : Result Reply Fault) → OnOk r claim → IfAnswered claim (end_of r)
quiet_end claim (Ok reply) h = without claim (status_of reply.answer) h
quiet_end claim (Err Input) h = tt
quiet_end claim (Err Output) h = tt
quiet_end claim (Err Judge) h = tt
quiet_end claim (Err Memory) h = tt

-- a fault is no answer
pub unanswered : (claim : Type 0) (f : Fault) → IfAnswered claim (end_of (Err f))
unanswered claim Input = tt
unanswered claim Output = tt
unanswered claim Judge = tt
unanswered claim Memory = tt

-- what holds anyway holds after a fault
failed : (claim : Type 0) (f : Fault) → claim → WithFault claim (end_of (Err f))
failed claim Input h = h
failed claim Output h = h
failed claim Judge h = h
failed claim Memory h = h

-- a judge's fault has a status of its own
judge_only : (f : Fault) → end_of (Err f) ≡ JudgeFault → f ≡ Judge
judge_only Input e = absurd (cc (e))
judge_only Output e = absurd (cc (e))
judge_only Judge e = refl
judge_only Memory e = absurd (cc (e))

-- ---- sources

-- what holds anyway holds by a reply
always : (claim : Type 0) (r : Result Reply Fault) → claim → OnOk r claim
always claim (Ok reply) h = h
always claim (Err e) h = tt

-- a source that no call has touched
pub idle_source : {S : Type 0} (len : S → ℕ) (known : S → Option (List ℕ)) (faults : S → ℕ) (s : S)
    (r : Result Reply Fault) → LeavesSource len known faults s s r
idle_source len known faults s r =
    record { stays = stays_as_it_was len known faults s; quiet = always (faults s ≡ faults s) r refl }

-- what is left of a source by the status that the result leads to
pub kept_source : {S : Type 0} {len : S → ℕ} {known : S → Option (List ℕ)} {faults : S → ℕ} {old new : S}
    {r : Result Reply Fault} {s : Status} → end_of r ≡ s → LeavesSource len known faults old new r
    → KeepsSource len known faults old new s
kept_source {S} {len} {known} {faults} {old} {new} {r} ends leaves =
    subst (λ (x : Status). KeepsSource len known faults old new x) ends
    (record { stays = leaves.stays; quiet = quiet_end (faults new ≡ faults old) r leaves.quiet })

-- ---- a new file

-- what isn't done has left a new file untouched
left_by : {A Untouched : Type 0} → (A → ⊥) → A ⊎ Untouched → Untouched
left_by other (inl done) = absurd (other done)
left_by other (inr h) = h

-- by an answer, whether a new file is finished
answer_ends : (named : Bool) (F Untouched : Type 0) (before now : Bool) (a : Answer) → (a ≡ answer.Done → now ≡ true)
    → (a ≡ answer.Done) ⊎ Untouched → FileEnds named F Untouched before now (status_of a)
answer_ends named F U before now answer.Done done other = λ used. done refl
answer_ends named F U before now answer.Failing done other =
    left_by (λ (e : answer.Failing ≡ answer.Done). cc (e)) other
answer_ends named F U before now answer.Refused done other =
    left_by (λ (e : answer.Refused ≡ answer.Done). cc (e)) other
answer_ends named F U before now answer.NoStore done other =
    left_by (λ (e : answer.NoStore ≡ answer.Done). cc (e)) other
answer_ends named F U before now answer.Usage done other = left_by (λ (e : answer.Usage ≡ answer.Done). cc (e)) other
answer_ends named F U before now answer.DifferentClaims done other =
    left_by (λ (e : answer.DifferentClaims ≡ answer.Done). cc (e)) other
answer_ends named F U before now answer.Evidence done other =
    left_by (λ (e : answer.Evidence ≡ answer.Done). cc (e)) other
answer_ends named F U before now answer.BuildRefused done other =
    left_by (λ (e : answer.BuildRefused ≡ answer.Done). cc (e)) other
answer_ends named F U before now answer.NotAccepted done other =
    left_by (λ (e : answer.NotAccepted ≡ answer.Done). cc (e)) other
answer_ends named F U before now answer.StripRefused done other =
    left_by (λ (e : answer.StripRefused ≡ answer.Done). cc (e)) other

-- by the result of a call that names it
file_ends : (F Untouched : Type 0) (before now : Bool) (r : Result Reply Fault)
    → FileEnd Untouched before now r → FileEnds true F Untouched before now (end_of r)
file_ends F U before now (Ok reply) h = answer_ends true F U before now reply.answer h.0 h.1
file_ends F U before now (Err Input) h = h
file_ends F U before now (Err Output) h = inl h
file_ends F U before now (Err Judge) h = h
file_ends F U before now (Err Memory) h = h

-- one that no word names is untouched
unnamed_ends : (F Untouched : Type 0) (before now : Bool) (s : Status) → (Untouched → now ≡ before) → Untouched
    → FileEnds false F Untouched before now s
unnamed_ends F U before now Done same left = λ used. absurd (false≢true used)
unnamed_ends F U before now Failing same left = left
unnamed_ends F U before now Refused same left = left
unnamed_ends F U before now NoStore same left = left
unnamed_ends F U before now Usage same left = left
unnamed_ends F U before now InputFault same left = same left
unnamed_ends F U before now OutputFault same left = inl (same left)
unnamed_ends F U before now JudgeFault same left = left
unnamed_ends F U before now NoMemory same left = inl left
unnamed_ends F U before now DifferentClaims same left = left
unnamed_ends F U before now Evidence same left = left
unnamed_ends F U before now BuildRefused same left = left
unnamed_ends F U before now NotAccepted same left = left
unnamed_ends F U before now StripRefused same left = left

-- by either
out_ends : (named : Bool) (F Untouched : Type 0) (before now : Bool) (r : Result Reply Fault)
    → (Untouched → now ≡ before) → (named ≡ true → FileEnd Untouched before now r) → (named ≡ false → Untouched)
    → FileEnds named F Untouched before now (end_of r)
out_ends true F U before now r same ends left = file_ends F U before now r (ends refl)
out_ends false F U before now r same ends left = unnamed_ends F U before now (end_of r) same (left refl)

-- what is left of the new file by the status that the result leads to, unless the report fails behind it
pub kept_out : {K : Type 0} {written : K → Option (List ℕ)} {finished : K → Bool} {faults : K → ℕ} {named : Bool}
    {F : Type 0} {old new : K} {r : Result Reply Fault} {s : Status} → end_of r ≡ s
    → LeavesOut written finished faults named old new r → (named ≡ false → new ≡ old)
    → KeepsOut written finished faults named F old new s
kept_out {K} {written} {finished} {faults} {named} {F} {old} {new} {r} ends leaves unnamed =
    subst (λ (x : Status). KeepsOut written finished faults named F old new x) ends (record {
      later = leaves.later;
      quiet = quiet_end (faults new ≡ faults old) r leaves.quiet;
      grows = leaves.grows;
      unfinished = leaves.unfinished;
      ends = out_ends named F (new ≡ old) (finished old) (finished new) r (λ same. ap finished same) leaves.ends
          unnamed;
    })

-- the new file of words that name none
pub idle_out : {K : Type 0} (written : K → Option (List ℕ)) (finished : K → Bool) (faults : K → ℕ) (named : Bool)
    (k : K) (r : Result Reply Fault) → named ≡ false → LeavesOut written finished faults named k k r
idle_out written finished faults named k r none = record {
  later = omega arith;
  quiet = always (faults k ≡ faults k) r refl;
  grows = grows_none (written k);
  unfinished = λ rose. refl;
  ends = λ used. absurd (false≢true (sym none ∙ used));
}

-- the new file of a command that writes one
pub written_out : {K : Type 0} {written : K → Option (List ℕ)} {finished : K → Bool} {faults : K → ℕ}
    {Cause : ℕ → ℕ → Fault → Type 0} {named : Bool} {old new : K} {r : Result Reply Fault}
    → WritesSink written unsaid faults Cause old new r → EndsFile finished faults old new r
    → LeavesOut written finished faults named old new r
written_out writes ends = record {
  later = writes.stays.later;
  quiet = writes.quiet;
  grows = writes.stays.grows;
  unfinished = ends.unfinished;
  ends = λ used. ends.ends;
}

-- the new file before memory ran out
pub idle_memory : {K : Type 0} (written : K → Option (List ℕ)) (finished : K → Bool) (faults : K → ℕ) (named : Bool)
    (k : K) → LeavesOut written finished faults named k k (Err Memory)
idle_memory written finished faults named k = record {
  later = omega arith;
  quiet = tt;
  grows = grows_none (written k);
  unfinished = λ rose. refl;
  ends = λ used. inl refl;
}

-- ---- the report

-- after a judge that fails
after : (claim : Type 0) (r : Result Reply Fault) → claim → IfErr r (λ e. e ≡ Judge → claim)
after claim (Ok reply) h = tt
after claim (Err e) h = λ same. h

-- a report that no call has touched
pub idle_report : {W : Type 0} (written : W → Option (List ℕ)) (finished : W → Bool) (faults : W → ℕ) (whole : Bool)
    (w : W) (r : Result Reply Fault) → LeavesReport written finished faults whole w w r
idle_report written finished faults whole w r = record {
  later = omega arith;
  quiet = always (faults w ≡ faults w) r refl;
  grows = grows_none (written w);
  unfinished = refl;
  unwritten = λ same. refl;
  judged = after (w ≡ w) r refl;
}

-- one that the command writes to before its reply
pub begun_report : {W : Type 0} (written : W → Option (List ℕ)) (finished : W → Bool) (faults : W → ℕ)
    (Cause : ℕ → ℕ → Fault → Type 0) (whole : Bool) (old new : W) (r : Result Reply Fault)
    → WritesSink written finished faults Cause old new r
    → IfErr r (λ e. e ≡ Judge → new ≡ old) → whole ≡ false → LeavesReport written finished faults whole old new r
begun_report written finished faults Cause whole old new r writes judged early = record {
  later = writes.stays.later;
  quiet = writes.quiet;
  grows = writes.stays.grows;
  unfinished = writes.stays.unfinished;
  unwritten = λ all. absurd (false≢true (sym early ∙ all));
  judged = judged;
}

-- what is left of it where there is no reply
pub kept_report : {W : Type 0} {written : W → Option (List ℕ)} {finished : W → Bool} {faults : W → ℕ} {whole : Bool}
    {Ready : Type 0} {old new : W} (f : Fault) {s : Status} → s ≡ end_of (Err f)
    → LeavesReport written finished faults whole old new (Err f) → (new ≡ old) ⊎ Ready
    → KeepsReport written finished faults whole Ready old new s
kept_report {W} {written} {finished} {faults} {whole} {Ready} {old} {new} f is leaves behind =
    subst (λ (x : Status). KeepsReport written finished faults whole Ready old new x) (sym is)
    (record {
      later = leaves.later;
      quiet = unanswered (faults new ≡ faults old) f;
      grows = leaves.grows;
      is_finished = unanswered (finished new ≡ true) f;
      unfinished = failed (finished new ≡ finished old) f leaves.unfinished;
      unwritten = λ all none. leaves.unwritten all;
      judged = λ same. leaves.judged (judge_only f same);
      behind = behind;
    })

-- ---- judges

-- no count of a list has fallen below itself
still : (counts : List ℕ) → NoneFell counts counts
still counts i inside = omega arith

-- judges whom no call has asked
pub idle_panel : (js : Judges) (r : Result Reply Fault) → LeavesJudges js js r
idle_panel js r = record {
  same = refl;
  asked_later = still js.asked;
  faults_later = still js.faults;
  ok = always (js.faults ≡ js.faults) r refl;
}

-- what is left of them by the status that the result leads to
pub kept_panel : {old new : Judges} {r : Result Reply Fault} {s : Status} → end_of r ≡ s → LeavesJudges old new r
    → KeepsJudges old new s
kept_panel {old} {new} {r} ends leaves =
    subst (λ (x : Status). KeepsJudges old new x) ends
    (record {
      same = leaves.same;
      asked_later = leaves.asked_later;
      faults_later = leaves.faults_later;
      quiet = quiet_end (new.faults ≡ old.faults) r leaves.ok;
    })

-- ---- what a command doesn't use

-- what is untouched by a command, by the words that it has: each source that none names, or that isn't due, the new file and the judges
pub record LeavesBy (call : Call) (c : Command) (u : Untouched) : Type 0 where
  pub second : (has_word is_second c ≡ false) ⊎ HasNotDue call the_second c → u.sources.second
  pub third : (has_word is_third c ≡ false) ⊎ HasNotDue call the_third c → u.sources.third
  pub fourth : (has_word is_fourth c ≡ false) ⊎ HasNotDue call the_fourth c → u.sources.fourth
  pub out : has_word is_out c ≡ false → u.out
  pub judges : has_word lets_ask c ≡ false → u.judges

-- a word that the call doesn't name its command doesn't have
unnamed_in : (is : Role → Bool) (words : Option Roles) (found : Roles) (c : Command) → words ≡ Some found
    → found.command ≡ c → names is words ≡ false → has_word is c ≡ false
unnamed_in is words found c gives named none = sym (ap (names is) gives ∙ ap (has_word is) named) ∙ none

-- of a command that reads the media, or makes it
pub unused_by : {call : Call} {u : Untouched} (found : Roles) (c : Command) → call.roles ≡ Some found
    → found.command ≡ c → (has_word is_media c ≡ true) ⊎ u.sources.media → LeavesBy call c u → LeavesUnused call u
unused_by {call} {u} found c gives named media by =
    record {
      sources = source;
      out = λ none. by.out (unnamed_in is_out call.roles found c gives named none);
      judges = λ none. by.judges (unnamed_in lets_ask call.roles found c gives named none);
    }
  where
    due : (s : SourceName) → IsUnused call s → (has_word (is_source s) c ≡ false) ⊎ HasNotDue call s c
    due s (inl none) = inl (unnamed_in (is_source s) call.roles found c gives named none)
    due s (inr n) = inr (of_command (HasNotDue call s) call.roles found c gives named n)

    reads : (has_word is_media c ≡ true) ⊎ u.sources.media
        → (has_word is_media c ≡ false) ⊎ HasNotDue call the_media c → u.sources.media
    reads (inr left) h = left
    reads (inl has) (inl none) = absurd (false≢true (sym none ∙ has))
    reads (inl has) (inr never) = absurd never

    source : (s : SourceName) → IsUnused call s → of_source u.sources s
    source the_media h = reads media (due the_media h)
    source the_second h = by.second (due the_second h)
    source the_third h = by.third (due the_third h)
    source the_fourth h = by.fourth (due the_fourth h)

-- what is left of a source that the command names, where it isn't due
pub undue : {NotDue Left : Type 0} → (NotDue → Left) → (true ≡ false) ⊎ NotDue → Left
undue left (inl none) = absurd (false≢true (sym none))
undue left (inr n) = left n

-- a call that has touched nothing
pub unused_idle : {call : Call} {u : Untouched} → u.sources.media → u.sources.second → u.sources.third
    → u.sources.fourth → u.out → u.judges → LeavesUnused call u
unused_idle {call} {u} media second third fourth out judges =
    record { sources = source; out = λ none. out; judges = λ none. judges }
  where
    source : (s : SourceName) → IsUnused call s → of_source u.sources s
    source the_media h = media
    source the_second h = second
    source the_third h = third
    source the_fourth h = fourth
