-- Whose fault a command answers before its reply is written, by the words that it has.
use Rattle.std.proofs.Common.{◌≡◌, refl, sym, subst, inl, inr, ◌⊎◌, ℕ, true, List, Option, Some, None}
use Rattle.std.specs.Prelude.{◌≢◌, ⊤, IfErr, IfOk, Ok, Err, Result}
use Rattle.c2_base.specs.Causes.{Rose}
use Rattle.c2_spec.specs.Judges.Panel.{SomeRose}
use Rattle.c2_rules.specs.Asking.{IsJudgeCause}
use Rattle.c2_usage.specs.CommandLine.{has_word, is_fourth, is_media, is_out, is_second, is_third, lets_ask}
use Rattle.c2_usage.specs.declared.types.Command.{Command}
use Rattle.c2_usage.specs.declared.types.Roles.{Roles}
use Rattle.c2_cmd_outcome.specs.Reply.{CausedBy, IsCopyingCause, IsInputCause, IsMediaCause, IsOutputCause, IsPanelCause, IsReadingCause, IsSourcesCause, IsWritingCause, end_of, fault_heard}
use Rattle.c2_cmd_outcome.specs.Status.{HasNoReply, status_of}
use Rattle.c2_cmd_outcome.specs.declared.reply.Fault.{Fault}
use Rattle.c2_cmd_outcome.specs.declared.reply.Fault.TheVariants.{Input, Output, Judge, Memory}
use Rattle.c2_cmd_outcome.specs.declared.reply.Reply.{Reply}
use Rattle.c2_cmd_outcome.specs.declared.types.Answer.{Answer}
use Rattle.c2_cmd_outcome.specs.declared.types.Answer.TheVariants as answer
use Rattle.c2_cmd_outcome.specs.declared.types.Status.TheVariants.{Usage, InputFault, OutputFault, JudgeFault}
use Rattle.c2_cmd.specs.Run.{Faults, IsCaused, JudgeFailed, SinkFailed, SourceFailed}
use Rattle.c2_cmd.specs.Sources.{the_fourth, the_media, the_second, the_third}
use Rattle.c2_cmd.proofs.Commands.{named_by}
use Rattle.c2_cmd.proofs.Delivering.{no_end}

-- ---- statuses of answers

-- an answer is no failure of a sink
pub no_output : (a : Answer) → status_of a ≡ OutputFault → ⊥
no_output answer.Done e = cc (e)
no_output answer.Failing e = cc (e)
no_output answer.Refused e = cc (e)
no_output answer.NoStore e = cc (e)
no_output answer.Usage e = cc (e)
no_output answer.DifferentClaims e = cc (e)
no_output answer.Evidence e = cc (e)
no_output answer.BuildRefused e = cc (e)
no_output answer.NotAccepted e = cc (e)
no_output answer.StripRefused e = cc (e)

-- words that are refused are answered so
usage_alone : (a : Answer) → status_of a ≡ Usage → a ≡ answer.Usage
usage_alone answer.Done e = absurd (cc (e))
usage_alone answer.Failing e = absurd (cc (e))
usage_alone answer.Refused e = absurd (cc (e))
usage_alone answer.NoStore e = absurd (cc (e))
usage_alone answer.Usage e = refl
usage_alone answer.DifferentClaims e = absurd (cc (e))
usage_alone answer.Evidence e = absurd (cc (e))
usage_alone answer.BuildRefused e = absurd (cc (e))
usage_alone answer.NotAccepted e = absurd (cc (e))
usage_alone answer.StripRefused e = absurd (cc (e))

-- ---- by the result of a call

-- words that are refused are no reply of a command
pub fits_end : (claim : Type 0) (r : Result Reply Fault) → IfOk r (λ reply. reply.answer ≢ answer.Usage)
    → end_of r ≡ Usage → claim
fits_end claim (Ok reply) h e = absurd (h (usage_alone reply.answer e))
fits_end claim (Err Input) h e = absurd (cc (e))
fits_end claim (Err Output) h e = absurd (cc (e))
fits_end claim (Err Judge) h e = absurd (cc (e))
fits_end claim (Err Memory) h e = absurd (cc (e))

-- a failure of a source has its cause
pub source_end : (source sink judge : Type 0) (r : Result Reply Fault) → IfErr r (CausedBy source sink judge)
    → end_of r ≡ InputFault → source
source_end source sink judge (Ok reply) h e = absurd (no_end reply.answer (subst HasNoReply (sym e) tt))
source_end source sink judge (Err Input) h e = h
source_end source sink judge (Err Output) h e = absurd (cc (e))
source_end source sink judge (Err Judge) h e = absurd (cc (e))
source_end source sink judge (Err Memory) h e = absurd (cc (e))

-- a failure of a sink has its cause
pub sink_end : (source sink judge : Type 0) (r : Result Reply Fault) → IfErr r (CausedBy source sink judge)
    → end_of r ≡ OutputFault → sink
sink_end source sink judge (Ok reply) h e = absurd (no_output reply.answer e)
sink_end source sink judge (Err Input) h e = absurd (cc (e))
sink_end source sink judge (Err Output) h e = h
sink_end source sink judge (Err Judge) h e = absurd (cc (e))
sink_end source sink judge (Err Memory) h e = absurd (cc (e))

-- no judge fails where none may
pub unjudged_end : (source sink claim : Type 0) (r : Result Reply Fault) → IfErr r (CausedBy source sink ⊥)
    → end_of r ≡ JudgeFault → claim
unjudged_end source sink claim (Ok reply) h e = absurd (no_end reply.answer (subst HasNoReply (sym e) tt))
unjudged_end source sink claim (Err Input) h e = absurd (cc (e))
unjudged_end source sink claim (Err Output) h e = absurd (cc (e))
unjudged_end source sink claim (Err Judge) h e = absurd h
unjudged_end source sink claim (Err Memory) h e = absurd (cc (e))

-- where a judge failed, a judge's count of faults rose
pub judged_end : (before now : List ℕ) (r : Result Reply Fault)
    → IfErr r (λ e. IsJudgeCause before now (fault_heard e)) → end_of r ≡ JudgeFault → SomeRose before now
judged_end before now (Ok reply) h e = absurd (no_end reply.answer (subst HasNoReply (sym e) tt))
judged_end before now (Err Input) h e = absurd (cc (e))
judged_end before now (Err Output) h e = absurd (cc (e))
judged_end before now (Err Judge) h e = h
judged_end before now (Err Memory) h e = absurd (cc (e))

-- ---- whose fault it is

-- an answer that is given to words which fit
words_caused : (roles : Option Roles) (f : Faults) (r : Result Reply Fault)
    → IfOk r (λ reply. reply.answer ≢ answer.Usage) → (end_of r ≡ InputFault → SourceFailed roles f)
    → (end_of r ≡ OutputFault → SinkFailed roles f) → (end_of r ≡ JudgeFault → JudgeFailed roles f)
    → IsCaused roles f (end_of r)
words_caused roles f r words input output judge =
    record { usage = fits_end (roles ≡ None) r words; input = input; output = output; judge_fault = judge }

-- by a command that reads the media
pub caused_media : {roles : Option Roles} {f : Faults} (r : Result Reply Fault) (found : Roles)
    (c : Command)
    → roles ≡ Some found → found.command ≡ c → has_word is_media c ≡ true
    → IfOk r (λ reply. reply.answer ≢ answer.Usage)
    → IfErr r (IsMediaCause f.sources.media.0 f.sources.media.1) → IsCaused roles f (end_of r)
caused_media {roles} {f} r found c gives named has words cause =
    words_caused roles f r words
    (λ e. (the_media, (named_by is_media roles found c gives named has, source_end _ _ _ r cause e)))
    (λ e. absurd (sink_end _ _ _ r cause e)) (λ e. unjudged_end _ _ _ r cause e)

-- by one that writes a part of it to the new file
pub caused_copying : {roles : Option Roles} {f : Faults} (r : Result Reply Fault) (found : Roles)
    (c : Command)
    → roles ≡ Some found → found.command ≡ c → has_word is_media c ≡ true → has_word is_out c ≡ true
    → IfOk r (λ reply. reply.answer ≢ answer.Usage)
    → IfErr r (IsCopyingCause f.sources.media.0 f.sources.media.1) → IfErr r (IsOutputCause f.out.0 f.out.1)
    → IsCaused roles f (end_of r)
caused_copying {roles} {f} r found c gives named has writes words cause out =
    words_caused roles f r words
    (λ e. (the_media, (named_by is_media roles found c gives named has, source_end _ _ _ r cause e)))
    (λ e. inr (named_by is_out roles found c gives named writes, sink_end _ _ _ r out e))
    (λ e. unjudged_end _ _ _ r cause e)

-- by one that makes its media and asks judges
pub caused_sample : {roles : Option Roles} {f : Faults} (r : Result Reply Fault) (found : Roles)
    (c : Command)
    → roles ≡ Some found → found.command ≡ c → has_word lets_ask c ≡ true
    → IfOk r (λ reply. reply.answer ≢ answer.Usage) → IfErr r (CausedBy ⊥ ⊥ ⊤)
    → IfErr r (λ e. IsJudgeCause f.judges.0 f.judges.1 (fault_heard e)) → IsCaused roles f (end_of r)
caused_sample {roles} {f} r found c gives named asks words cause panel =
    words_caused roles f r words (λ e. absurd (source_end _ _ _ r cause e)) (λ e. absurd (sink_end _ _ _ r cause e))
    (λ e. (named_by lets_ask roles found c gives named asks, judged_end _ _ r panel e))

-- by one that reads the media and asks judges
pub caused_panel : {roles : Option Roles} {f : Faults} (r : Result Reply Fault) (found : Roles)
    (c : Command)
    → roles ≡ Some found → found.command ≡ c → has_word is_media c ≡ true → has_word lets_ask c ≡ true
    → IfOk r (λ reply. reply.answer ≢ answer.Usage)
    → IfErr r (IsPanelCause f.sources.media.0 f.sources.media.1)
    → IfErr r (λ e. IsJudgeCause f.judges.0 f.judges.1 (fault_heard e)) → IsCaused roles f (end_of r)
caused_panel {roles} {f} r found c gives named has asks words cause panel =
    words_caused roles f r words
    (λ e. (the_media, (named_by is_media roles found c gives named has, source_end _ _ _ r cause e)))
    (λ e. absurd (sink_end _ _ _ r cause e))
    (λ e. (named_by lets_ask roles found c gives named asks, judged_end _ _ r panel e))

-- the media failed, or the second file
two_failed : (roles : Option Roles) (f : Faults) (found : Roles) (c : Command) → roles ≡ Some found
    → found.command ≡ c → has_word is_media c ≡ true → has_word is_second c ≡ true
    → Rose f.sources.media.0 f.sources.media.1 ⊎ Rose f.sources.second.0 f.sources.second.1 → SourceFailed roles f
two_failed roles f found c gives named has other (inl rose) =
    (the_media, (named_by is_media roles found c gives named has, rose))
two_failed roles f found c gives named has other (inr rose) =
    (the_second, (named_by is_second roles found c gives named other, rose))

-- by a command that reads both and asks judges
pub caused_reading : {roles : Option Roles} {f : Faults} (r : Result Reply Fault) (found : Roles)
    (c : Command)
    → roles ≡ Some found → found.command ≡ c → has_word is_media c ≡ true → has_word is_second c ≡ true
    → has_word lets_ask c ≡ true → IfOk r (λ reply. reply.answer ≢ answer.Usage)
    → IfErr r (IsReadingCause (Rose f.sources.second.0 f.sources.second.1) f.sources.media.0 f.sources.media.1)
    → IfErr r (λ e. IsJudgeCause f.judges.0 f.judges.1 (fault_heard e)) → IsCaused roles f (end_of r)
caused_reading {roles} {f} r found c gives named has other asks words cause panel =
    words_caused roles f r words
    (λ e. two_failed roles f found c gives named has other (source_end _ _ _ r cause e))
    (λ e. absurd (sink_end _ _ _ r cause e))
    (λ e. (named_by lets_ask roles found c gives named asks, judged_end _ _ r panel e))

-- by one that reads both and asks nobody
pub caused_sources : {roles : Option Roles} {f : Faults} (r : Result Reply Fault) (found : Roles)
    (c : Command)
    → roles ≡ Some found → found.command ≡ c → has_word is_media c ≡ true → has_word is_second c ≡ true
    → IfOk r (λ reply. reply.answer ≢ answer.Usage)
    → IfErr r (IsSourcesCause (Rose f.sources.second.0 f.sources.second.1) f.sources.media.0 f.sources.media.1)
    → IsCaused roles f (end_of r)
caused_sources {roles} {f} r found c gives named has other words cause =
    words_caused roles f r words
    (λ e. two_failed roles f found c gives named has other (source_end _ _ _ r cause e))
    (λ e. absurd (sink_end _ _ _ r cause e)) (λ e. unjudged_end _ _ _ r cause e)

-- by one that reads both, asks judges and writes to the report
pub caused_compare : {roles : Option Roles} {f : Faults} (r : Result Reply Fault) (found : Roles)
    (c : Command)
    → roles ≡ Some found → found.command ≡ c → has_word is_media c ≡ true → has_word is_second c ≡ true
    → has_word lets_ask c ≡ true → IfOk r (λ reply. reply.answer ≢ answer.Usage)
    → IfErr r (IsInputCause (Rose f.sources.second.0 f.sources.second.1) f.sources.media.0 f.sources.media.1)
    → IfErr r (IsOutputCause f.report.0 f.report.1)
    → IfErr r (λ e. IsJudgeCause f.judges.0 f.judges.1 (fault_heard e)) → IsCaused roles f (end_of r)
caused_compare {roles} {f} r found c gives named has other asks words cause report panel =
    words_caused roles f r words
    (λ e. two_failed roles f found c gives named has other (source_end _ _ _ r cause e))
    (λ e. inl (refl, sink_end _ _ _ r report e))
    (λ e. (named_by lets_ask roles found c gives named asks, judged_end _ _ r panel e))

-- one of three failed
three_failed : (roles : Option Roles) (f : Faults) (found : Roles) (c : Command) → roles ≡ Some found
    → found.command ≡ c → has_word is_media c ≡ true → has_word is_second c ≡ true → has_word is_third c ≡ true
    → Rose f.sources.media.0 f.sources.media.1
    ⊎ (Rose f.sources.second.0 f.sources.second.1 ⊎ Rose f.sources.third.0 f.sources.third.1) → SourceFailed roles f
three_failed roles f found c gives named has other more (inl rose) =
    two_failed roles f found c gives named has other (inl rose)
three_failed roles f found c gives named has other more (inr (inl rose)) =
    two_failed roles f found c gives named has other (inr rose)
three_failed roles f found c gives named has other more (inr (inr rose)) =
    (the_third, (named_by is_third roles found c gives named more, rose))

-- by a command that reads three, writes to the new file and asks judges
pub caused_embed : {roles : Option Roles} {f : Faults} (r : Result Reply Fault) (found : Roles)
    (c : Command)
    → roles ≡ Some found → found.command ≡ c → has_word is_media c ≡ true → has_word is_second c ≡ true
    → has_word is_third c ≡ true → has_word is_out c ≡ true → has_word lets_ask c ≡ true
    → IfOk r (λ reply. reply.answer ≢ answer.Usage)
    → IfErr r (IsInputCause (Rose f.sources.second.0 f.sources.second.1 ⊎ Rose f.sources.third.0 f.sources.third.1)
    f.sources.media.0 f.sources.media.1) → IfErr r (IsOutputCause f.out.0 f.out.1)
    → IfErr r (λ e. IsJudgeCause f.judges.0 f.judges.1 (fault_heard e)) → IsCaused roles f (end_of r)
caused_embed {roles} {f} r found c gives named has other more writes asks words cause out panel =
    words_caused roles f r words
    (λ e. three_failed roles f found c gives named has other more (source_end _ _ _ r cause e))
    (λ e. inr (named_by is_out roles found c gives named writes, sink_end _ _ _ r out e))
    (λ e. (named_by lets_ask roles found c gives named asks, judged_end _ _ r panel e))

-- by one that reads three, writes to the new file and asks nobody
pub caused_writing : {roles : Option Roles} {f : Faults} (r : Result Reply Fault) (found : Roles)
    (c : Command)
    → roles ≡ Some found → found.command ≡ c → has_word is_media c ≡ true → has_word is_second c ≡ true
    → has_word is_third c ≡ true → has_word is_out c ≡ true → IfOk r (λ reply. reply.answer ≢ answer.Usage)
    → IfErr r (IsWritingCause (Rose f.sources.second.0 f.sources.second.1 ⊎ Rose f.sources.third.0 f.sources.third.1)
    f.sources.media.0 f.sources.media.1) → IfErr r (IsOutputCause f.out.0 f.out.1) → IsCaused roles f (end_of r)
caused_writing {roles} {f} r found c gives named has other more writes words cause out =
    words_caused roles f r words
    (λ e. three_failed roles f found c gives named has other more (source_end _ _ _ r cause e))
    (λ e. inr (named_by is_out roles found c gives named writes, sink_end _ _ _ r out e))
    (λ e. unjudged_end _ _ _ r cause e)

-- one of these failed: the media, the second file or the fourth
collect_failed : (roles : Option Roles) (f : Faults) (found : Roles) (c : Command) → roles ≡ Some found
    → found.command ≡ c → has_word is_media c ≡ true → has_word is_second c ≡ true → has_word is_fourth c ≡ true
    → Rose f.sources.media.0 f.sources.media.1
    ⊎ (Rose f.sources.second.0 f.sources.second.1 ⊎ Rose f.sources.fourth.0 f.sources.fourth.1) → SourceFailed roles f
collect_failed roles f found c gives named has other more (inl rose) =
    two_failed roles f found c gives named has other (inl rose)
collect_failed roles f found c gives named has other more (inr (inl rose)) =
    two_failed roles f found c gives named has other (inr rose)
collect_failed roles f found c gives named has other more (inr (inr rose)) =
    (the_fourth, (named_by is_fourth roles found c gives named more, rose))

-- by a command that reads these and asks judges
pub caused_collecting : {roles : Option Roles} {f : Faults} (r : Result Reply Fault) (found : Roles)
    (c : Command)
    → roles ≡ Some found → found.command ≡ c → has_word is_media c ≡ true → has_word is_second c ≡ true
    → has_word is_fourth c ≡ true → has_word lets_ask c ≡ true → IfOk r (λ reply. reply.answer ≢ answer.Usage)
    → IfErr r (IsReadingCause (Rose f.sources.second.0 f.sources.second.1 ⊎ Rose f.sources.fourth.0 f.sources.fourth.1)
    f.sources.media.0 f.sources.media.1)
    → IfErr r (λ e. IsJudgeCause f.judges.0 f.judges.1 (fault_heard e)) → IsCaused roles f (end_of r)
caused_collecting {roles} {f} r found c gives named has other more asks words cause panel =
    words_caused roles f r words
    (λ e. collect_failed roles f found c gives named has other more (source_end _ _ _ r cause e))
    (λ e. absurd (sink_end _ _ _ r cause e))
    (λ e. (named_by lets_ask roles found c gives named asks, judged_end _ _ r panel e))

-- one of four failed
four_failed : (roles : Option Roles) (f : Faults) (found : Roles) (c : Command) → roles ≡ Some found
    → found.command ≡ c → has_word is_media c ≡ true → has_word is_second c ≡ true → has_word is_third c ≡ true
    → has_word is_fourth c ≡ true
    → Rose f.sources.media.0 f.sources.media.1
    ⊎ (Rose f.sources.second.0 f.sources.second.1
    ⊎ (Rose f.sources.third.0 f.sources.third.1 ⊎ Rose f.sources.fourth.0 f.sources.fourth.1)) → SourceFailed roles f
four_failed roles f found c gives named has other message more (inl rose) =
    two_failed roles f found c gives named has other (inl rose)
four_failed roles f found c gives named has other message more (inr (inl rose)) =
    two_failed roles f found c gives named has other (inr rose)
four_failed roles f found c gives named has other message more (inr (inr (inl rose))) =
    three_failed roles f found c gives named has other message (inr (inr rose))
four_failed roles f found c gives named has other message more (inr (inr (inr rose))) =
    (the_fourth, (named_by is_fourth roles found c gives named more, rose))

-- by a command that reads four, writes to the new file and asks judges
pub caused_collected : {roles : Option Roles} {f : Faults} (r : Result Reply Fault) (found : Roles)
    (c : Command)
    → roles ≡ Some found → found.command ≡ c → has_word is_media c ≡ true → has_word is_second c ≡ true
    → has_word is_third c ≡ true → has_word is_fourth c ≡ true → has_word is_out c ≡ true
    → has_word lets_ask c ≡ true → IfOk r (λ reply. reply.answer ≢ answer.Usage)
    → IfErr r (IsInputCause (Rose f.sources.second.0 f.sources.second.1
    ⊎ (Rose f.sources.third.0 f.sources.third.1 ⊎ Rose f.sources.fourth.0 f.sources.fourth.1))
    f.sources.media.0 f.sources.media.1) → IfErr r (IsOutputCause f.out.0 f.out.1)
    → IfErr r (λ e. IsJudgeCause f.judges.0 f.judges.1 (fault_heard e)) → IsCaused roles f (end_of r)
caused_collected {roles} {f} r found c gives named has other message more writes asks words cause out panel =
    words_caused roles f r words
    (λ e. four_failed roles f found c gives named has other message more (source_end _ _ _ r cause e))
    (λ e. inr (named_by is_out roles found c gives named writes, sink_end _ _ _ r out e))
    (λ e. (named_by lets_ask roles found c gives named asks, judged_end _ _ r panel e))

-- ---- words of no command

-- words that fit none are refused, unless memory runs out
pub caused_usage : {roles : Option Roles} {f : Faults} (r : Result Reply Fault) → roles ≡ None
    → IfErr r (λ e. e ≡ Memory) → IsCaused roles f (end_of r)
caused_usage r none memory = record {
  usage = λ e. none;
  input = λ e. absurd (source_end ⊥ ⊥ ⊥ r (memory_alone r memory) e);
  output = λ e. absurd (sink_end ⊥ ⊥ ⊥ r (memory_alone r memory) e);
  judge_fault = λ e. unjudged_end ⊥ ⊥ _ r (memory_alone r memory) e;
}
  where
    memory_alone : (r : Result Reply Fault) → IfErr r (λ e. e ≡ Memory) → IfErr r (CausedBy ⊥ ⊥ ⊥)
    memory_alone (Ok reply) h = tt
    memory_alone (Err e) h = subst (CausedBy ⊥ ⊥ ⊥) (sym h) tt

-- memory ran out before they were read
pub caused_memory : {roles : Option Roles} {f : Faults} → IsCaused roles f (end_of (Err Memory))
caused_memory = record {
  usage = λ e. absurd (cc (e));
  input = λ e. absurd (cc (e));
  output = λ e. absurd (cc (e));
  judge_fault = λ e. absurd (cc (e));
}
