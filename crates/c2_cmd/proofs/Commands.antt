-- What a command replies, writes and asks is what its call comes to, meets and asks.
use Rattle.std.proofs.Common.{◌≡◌, Bool, refl, sym, ◌∙◌, ap, subst, inl, inr, ◌⊎◌, ℕ, true, false, List, [], map, Option, Some, None}
use Rattle.std.specs.Prelude.{⊤, IfErr, IfOk, IsSome, Ok, Err, Result, unwrap_or}
use Rattle.std.specs.Option.{ForSome}
use Rattle.std.specs.declared.alloc.Global.{Global}
use Rattle.std.specs.declared.vec.Vec.{Vec}
use Rattle.std.proofs.lemmas.Bool.{false≢true}
use Rattle.c2_base.specs.Source.{IsKnownWhereDue}
use Rattle.c2_base.specs.declared.values.Question.{Question}
use Rattle.c2_build_refusals.specs.Stages.{IsMessageRefused, IsToldRefused}
use Rattle.c2_calls_spec.specs.Asks.{AsksKnown}
use Rattle.c2_calls_spec.proofs.PanelLemmas.{asked_none}
use Rattle.c2_spec.specs.Judges.Panel.{Judges, judges_of, panel_says}
use Rattle.c2_spec.specs.declared.panel.Verdict.{Verdict}
use Rattle.c2_rules.specs.Asking.{HasHeard, HearsPanel}
use Rattle.c2_usage.specs.CommandLine.{has_word, reports_whole}
use Rattle.c2_usage.specs.declared.types.Command.{Command}
use Rattle.c2_usage.specs.declared.types.Role.{Role}
use Rattle.c2_usage.specs.declared.types.Roles.{Roles}
use Rattle.c2_cmd_outcome.specs.Left.{SinkState}
use Rattle.c2_cmd_outcome.specs.Outcome.{IsOneOutcome, Outcome, reports}
use Rattle.c2_cmd_outcome.specs.declared.types.Answer.TheVariants as answer
use Rattle.c2_texts.specs.Texts.{usage_line}
use Rattle.c2_cmd_outcome.specs.Reply.{Begins, CausedBy, HasWhole, MakesFile, Replies, StandsFor, TakesFile, fault_heard, outcome_of}
use Rattle.c2_cmd_outcome.specs.declared.reply.Fault.{Fault}
use Rattle.c2_cmd_outcome.specs.declared.reply.Fault.TheVariants.{Input, Output, Judge, Memory}
use Rattle.c2_cmd_outcome.specs.declared.reply.Reply.{Reply}
use Rattle.c2_cmd_outcome.proofs.Replying.{no_reply, nothing_written, one_reply}
use Rattle.c2_cmd.specs.Outcome.{Asks, CommandAsks, CommandMeets, IsCommandOutcome, IsOutcome, Meets, has_whole_report, names}
use Rattle.c2_cmd.specs.Run.{Call, HasNotDue, IsKnown, IsKnownAs, IsNotDue, IsOfCommand, RepliesTo, RunState, handed}
use Rattle.c2_cmd.specs.Sources.{SourceName, is_source, of_source, the_media}
use Rattle.c2_base.proofs.Written.{then_nothing}

-- ---- the words

-- words whose command has a word of such a role have it
pub named_by : (is : Role → Bool) (words : Option Roles) (found : Roles) (c : Command) → words ≡ Some found
    → found.command ≡ c → has_word is c ≡ true → names is words ≡ true
named_by is words found c gives named has = ap (names is) gives ∙ ap (has_word is) named ∙ has

-- words whose command has no word of such a role don't have it
pub unnamed_by : (is : Role → Bool) (words : Option Roles) (found : Roles) (c : Command) → words ≡ Some found
    → found.command ≡ c → has_word is c ≡ false → names is words ≡ false
unnamed_by is words found c gives named none = ap (names is) gives ∙ ap (has_word is) named ∙ none

-- the whole report isn't there before any of it is written, by words whose command begins it early
pub early_by : (words : Option Roles) (found : Roles) (c : Command) → words ≡ Some found → found.command ≡ c
    → reports_whole c ≡ false → has_whole_report words ≡ false
early_by words found c gives named early = ap has_whole_report gives ∙ ap reports_whole named ∙ early

-- what holds of the command of words with roles holds of the command that is run
pub of_command : (Holds : Command → Type 0) (words : Option Roles) (found : Roles) (c : Command) → words ≡ Some found
    → found.command ≡ c → IsOfCommand Holds words → Holds c
of_command Holds words found c gives named h =
    subst Holds named (subst (λ (x : Option Roles). IsOfCommand Holds x) gives h)

-- A reply to a call that comes to the outcomes of which the one holds, and asks the questions of which the other does.
pub record RepliesBy (IsExpected : Outcome → Type 0) (AreAsked : List Question → Type 0) (IsMet : Type 0)
    (old new : RunState) (SameJudges : Type 0) (result : Result Reply Fault) : Type 0 where
  pub reply : Begins IsExpected old.report.written new.report.written result
  pub file : (expected : Outcome) → IsExpected expected → TakesFile expected.file old.file new.file result
  pub met : HasWhole old.file new.file result → IsMet
  pub asked : (qs : List Question) → AreAsked qs → HasHeard fault_heard qs old.judges new.judges result
  pub unasked : AreAsked [] → SameJudges

-- by the roles of its words
replies_as : (call : Call) (words : Option Roles) (old new : RunState) (Same : Type 0) (r : Result Reply Fault)
    → call.roles ≡ words → RepliesBy (IsOutcome words (handed call)) (Asks words (handed call))
    (Meets words (handed call)) old new Same r → RepliesTo call old new Same r
replies_as call words old new Same r gives h =
    let i = handed call in
    let of : RepliesBy (IsOutcome call.roles i) (Asks call.roles i) (Meets call.roles i) old new Same r =
    subst (λ (x : Option Roles). RepliesBy (IsOutcome x i) (Asks x i) (Meets x i) old new Same r) (sym gives) h in
    record { reply = of.reply; file = of.file; met = of.met; asked = of.asked; unasked = of.unasked }

-- a reply to a command is one to the call whose words have its roles
pub replies_to : {call : Call} (found : Roles) (c : Command) {old new : RunState} {Same : Type 0}
    {r : Result Reply Fault} → call.roles ≡ Some found → found.command ≡ c
    → RepliesBy (IsCommandOutcome c found (handed call)) (CommandAsks c found (handed call))
    (CommandMeets c (handed call)) old new Same r → RepliesTo call old new Same r
replies_to {call} found c {old} {new} {Same} {r} gives named h =
    let i = handed call in
    replies_as call (Some found) old new Same r gives
    (subst (λ (k : Command). RepliesBy (IsCommandOutcome k found i) (CommandAsks k found i) (CommandMeets k i) old new
    Same r) (sym named) h)

-- ---- sources that are known

-- bytes that are known
pub told : (known : Option (List ℕ)) → IsSome known → known ≡ Some (unwrap_or known [])
told None some = absurd (false≢true some)
told (Some file) some = refl

-- the bytes of a source that is due are known
pub told_where_due : (known : Option (List ℕ)) (NotDue IsLeft : Type 0) → (NotDue → IsLeft) → IsSome known ⊎ NotDue
    → IsKnownWhereDue known IsLeft (unwrap_or known [])
told_where_due None NotDue IsLeft to (inl some) = absurd (false≢true some)
told_where_due None NotDue IsLeft to (inr n) = inr (to n)
told_where_due (Some file) NotDue IsLeft to h = inl refl

-- the media of words that name it is always due
pub media_told : {call : Call} (found : Roles) (c : Command) → call.roles ≡ Some found → found.command ≡ c
    → has_word (is_source the_media) c ≡ true → IsKnown call → IsSome call.known.media
media_told {call} found c gives named has known =
    some_of (known.told the_media (named_by (is_source the_media) call.roles found c gives named has))
  where
    some_of : IsSome call.known.media ⊎ IsNotDue call the_media → IsSome call.known.media
    some_of (inl some) = some
    some_of (inr never) = absurd (of_command (λ k. ⊥) call.roles found c gives named never)

-- the bytes of another source than the media are known, where words name it and it is due
pub source_told : {call : Call} (s : SourceName) (found : Roles) (c : Command) {IsLeft : Type 0}
    → call.roles ≡ Some found → found.command ≡ c → has_word (is_source s) c ≡ true → IsKnown call
    → (HasNotDue call s c → IsLeft) → IsKnownWhereDue (of_source call.known s) IsLeft
    (unwrap_or (of_source call.known s) [])
source_told {call} s found c {IsLeft} gives named has known left =
    told_where_due (of_source call.known s) (IsNotDue call s) IsLeft
    (λ n. left (of_command (HasNotDue call s) call.roles found c gives named n))
    (known.told s (named_by (is_source s) call.roles found c gives named has))

-- what is known of a file holds of its bytes
pub held : (P : List ℕ → Type 0) (known : Option (List ℕ)) → IsKnownAs P known → P (unwrap_or known [])
held P known k = subst (λ (x : Option (List ℕ)). P (unwrap_or x [])) (sym k.is_known) k.holds

-- a source is left as it was that isn't due by the bytes of another
pub left_where_known : (P : List ℕ → Type 0) (known : Option (List ℕ)) (Same : Type 0)
    → ForSome known (λ file. P file → Same) → IsKnownAs P known → Same
left_where_known P known Same h k = h k.file k.is_known k.holds

-- a message isn't due by what is known of its media or of its definition
pub message_due : (P Q : List ℕ → Type 0) (known other : Option (List ℕ)) → IsKnownAs P known ⊎ IsKnownAs Q other
    → P (unwrap_or known []) ⊎ Q (unwrap_or other [])
message_due P Q known other (inl k) = inl (held P known k)
message_due P Q known other (inr k) = inr (held Q other k)

-- a message is left as it was where it isn't due by what is known of its media or of its definition
pub message_left : (P Q : List ℕ → Type 0) (known other : Option (List ℕ)) (Same : Type 0)
    → ForSome known (λ a. P a → Same) → ForSome other (λ b. Q b → Same) → IsKnownAs P known ⊎ IsKnownAs Q other → Same
message_left P Q known other Same first second (inl k) = left_where_known P known Same first k
message_left P Q known other Same first second (inr k) = left_where_known Q other Same second k

-- a message is refused by what is known of it and of its definition
told_refused : (known other : Option (List ℕ)) → IsToldRefused known other
    → IsMessageRefused (unwrap_or known []) (unwrap_or other [])
told_refused known other (b, is, (m, spoken, refuses)) =
    subst (λ (x : Option (List ℕ)). IsMessageRefused (unwrap_or x []) (unwrap_or other [])) (sym is)
    (subst (λ (x : Option (List ℕ)). IsMessageRefused b (unwrap_or x [])) (sym spoken) refuses)

-- another media file isn't due by what is known of the media, of the definition or of the message
pub other_due : (P Q : List ℕ → Type 0) (media known other : Option (List ℕ))
    → IsKnownAs P media ⊎ (IsKnownAs Q known ⊎ IsToldRefused known other)
    → P (unwrap_or media []) ⊎ (Q (unwrap_or known []) ⊎ IsMessageRefused (unwrap_or known []) (unwrap_or other []))
other_due P Q media known other (inl k) = inl (held P media k)
other_due P Q media known other (inr (inl k)) = inr (inl (held Q known k))
other_due P Q media known other (inr (inr k)) = inr (inr (told_refused known other k))

-- another media file is left as it was where it isn't due by what is known of the media, of the definition or of the message
pub other_left : (P Q : List ℕ → Type 0) (media known other : Option (List ℕ)) (Same : Type 0)
    → ForSome media (λ a. P a → Same)
    → ForSome known (λ b. Q b → Same) → (IsToldRefused known other → Same)
    → IsKnownAs P media ⊎ (IsKnownAs Q known ⊎ IsToldRefused known other)
    → Same
other_left P Q media known other Same first second third (inl k) = left_where_known P media Same first k
other_left P Q media known other Same first second third (inr (inl k)) = left_where_known Q known Same second k
other_left P Q media known other Same first second third (inr (inr k)) = third k

-- ---- replies

-- the only outcome, where nothing was written to the report
pub begins_alone : (P : Outcome → Type 0) (w : Option (List ℕ)) (r : Result Reply Fault) → IsOneOutcome P
    → IfOk r (λ reply. P (outcome_of reply)) → Begins P w w r
begins_alone P w (Ok reply) one h = one_reply P w reply one h
begins_alone P w (Err e) one h = no_reply P w e

-- a reply that stands for the outcome of a call that writes a file
pub begins_filed : (P : Outcome → Type 0) (w : Option (List ℕ)) (r : Result Reply Fault)
    → ((e : Outcome) → P e → IfOk r (StandsFor e [])) → Begins P w w r
begins_filed P w (Ok reply) h = record { before = []; written = then_nothing w; stands = h }
begins_filed P w (Err e) h = no_reply P w e

-- nothing is done to the sink for a new file by a command whose outcome has none
pub takes_none : (P : Outcome → Type 0) (k : SinkState) (r : Result Reply Fault)
    → ((e : Outcome) → P e → e.file ≡ None) → (e : Outcome) → P e → TakesFile e.file k k r
takes_none P k r unfiled e h = subst (λ (x : Option (List ℕ)). TakesFile x k k r) (sym (unfiled e h)) refl

-- a reply to known media
told_reply : (P : List ℕ → Outcome → Type 0) (known : Option (List ℕ)) (r : Result Reply Fault) → IsSome known
    → IfOk r (Replies P known) → IfOk r (λ reply. P (unwrap_or known []) (outcome_of reply))
told_reply P known (Ok reply) some h = h (unwrap_or known []) (told known some)
told_reply P known (Err e) some h = tt

-- nobody was asked where nothing is, by a call in which no judge fails
pub heard_none : (source sink : Type 0) (js : Judges) (qs : List Question) (r : Result Reply Fault)
    → IfErr r (CausedBy source sink ⊥) → qs ≡ [] → HasHeard fault_heard qs js js r
heard_none source sink js qs (Ok reply) cause none = asked_none js.said qs js.asked none
heard_none source sink js qs (Err Input) cause none = record { prefix = []; rest = qs; split = refl; asked = refl }
heard_none source sink js qs (Err Output) cause none = asked_none js.said qs js.asked none
heard_none source sink js qs (Err Judge) cause none = absurd cause
heard_none source sink js qs (Err Memory) cause none = record { prefix = []; rest = qs; split = refl; asked = refl }

-- a command that writes no file and asks nobody
pub replies_unheard : (P : Outcome → Type 0) (source sink : Type 0) {IsMet : Type 0} {w k : SinkState} {js : Judges}
    {Same : Type 0} {r : Result Reply Fault} → IsOneOutcome P → ((e : Outcome) → P e → e.file ≡ None) → IsMet
    → Same → IfErr r (CausedBy source sink ⊥) → IfOk r (λ reply. P (outcome_of reply))
    → RepliesBy P (λ qs. qs ≡ []) IsMet
    (record { report = w; file = k; judges = js })
    (record { report = w; file = k; judges = js }) Same r
replies_unheard P source sink {w} {k} {js} {r} one unfiled met same cause h = record {
  reply = begins_alone P w.written r one h;
  file = takes_none P k r unfiled;
  met = λ whole. met;
  asked = λ qs none. heard_none source sink js qs r cause none;
  unasked = λ none. same;
}

-- a command over the media alone that writes no file and asks nobody
pub replies_silent : (P : List ℕ → Outcome → Type 0) (known : Option (List ℕ)) (source sink : Type 0) {IsMet : Type 0}
    {w k : SinkState} {js : Judges} {Same : Type 0} {r : Result Reply Fault} → IsSome known
    → ((file : List ℕ) → IsOneOutcome (P file))
    → ((file : List ℕ) (e : Outcome) → P file e → e.file ≡ None) → IsMet → Same → IfErr r (CausedBy source sink ⊥) →
    IfOk r (Replies P known)
    → RepliesBy (P (unwrap_or known [])) (λ qs. qs ≡ []) IsMet
    (record { report = w; file = k; judges = js })
    (record { report = w; file = k; judges = js }) Same r
replies_silent P known source sink {r} some one unfiled met same cause h =
    replies_unheard (P (unwrap_or known [])) source sink (one (unwrap_or known [])) (unfiled (unwrap_or known [])) met
    same cause (told_reply P known r some h)

-- a command that asks judges, by its reply over the bytes of its sources
pub replies_heard : {J : Type 0} {says : J → Question → Verdict} {times faults : J → ℕ} (P : Outcome → Type 0)
    (AreAsked : List Question → Type 0) {Heard : (Question → Verdict) → List Question → Type 0} {IsMet : Type 0}
    {w k : SinkState} {old new : Vec J Global} {r : Result Reply Fault}
    → IsOneOutcome P → ((e : Outcome) → P e → e.file ≡ None) → IsMet → IfOk r (λ reply. P (outcome_of reply)) →
    HearsPanel says times faults fault_heard Heard old new r →
    ((qs : List Question) → AreAsked qs → Heard (panel_says (map says old.items)) qs)
    → RepliesBy P AreAsked IsMet (record {
      report = w;
      file = k;
      judges = judges_of says times faults old.items;
    }) (record { report = w; file = k; judges = judges_of says times faults new.items })
    (new ≡ old) r
replies_heard {says} P AreAsked {w} {k} {old} {r} one unfiled met h panel asks = record {
  reply = begins_alone P w.written r one h;
  file = takes_none P k r unfiled;
  met = λ whole. met;
  asked = λ qs are. panel.asked qs (asks qs are);
  unasked = λ none. panel.unasked (asks [] none);
}

-- one that asks judges, over the media alone
pub replies_media : {J : Type 0} {says : J → Question → Verdict} {times faults : J → ℕ}
    (P : List ℕ → Outcome → Type 0) (Asks : List ℕ → (Question → Verdict) → List Question → Type 0)
    (known : Option (List ℕ)) {IsMet : Type 0} {w k : SinkState} {old new : Vec J Global}
    {r : Result Reply Fault} → IsSome known → ((file : List ℕ) → IsOneOutcome (P file)) →
    ((file : List ℕ) (e : Outcome) → P file e → e.file ≡ None) → IsMet → IfOk r (Replies P known) → HearsPanel says
    times faults fault_heard (AsksKnown known Asks) old new r
    → RepliesBy (P (unwrap_or known [])) (Asks (unwrap_or known []) (panel_says (map says old.items))) IsMet
    (record { report = w; file = k; judges = judges_of says times faults old.items })
    (record { report = w; file = k; judges = judges_of says times faults new.items }) (new ≡ old) r
replies_media {says} P Asks known {old} {r} some one unfiled met h panel =
    replies_heard (P (unwrap_or known [])) (Asks (unwrap_or known []) (panel_says (map says old.items)))
    (one (unwrap_or known [])) (unfiled (unwrap_or known [])) met (told_reply P known r some h) panel
    (λ qs are. (unwrap_or known [], told known some, are))

-- a command that writes a file and asks nobody
pub replies_filed : (P : Outcome → Type 0) (source sink : Type 0) {IsMet : Type 0} {w k l : SinkState} {js : Judges}
    {Same : Type 0} {r : Result Reply Fault} → MakesFile P k l r → (HasWhole k l r → IsMet) → Same
    → IfErr r (CausedBy source sink ⊥) → RepliesBy P (λ qs. qs ≡ []) IsMet
    (record { report = w; file = k; judges = js })
    (record { report = w; file = l; judges = js }) Same r
replies_filed P source sink {w} {js} {r} made met same cause = record {
  reply = begins_filed P w.written r made.stands;
  file = made.takes;
  met = met;
  asked = λ qs none. heard_none source sink js qs r cause none;
  unasked = λ none. same;
}

-- one that copies a part of the media
pub replies_copied : (P : List ℕ → Outcome → Type 0) (known : Option (List ℕ)) (source sink : Type 0) {IsMet : Type 0}
    {w k l : SinkState} {js : Judges} {Same : Type 0} {r : Result Reply Fault} → IsSome known → IsMet
    → Same → IfErr r (CausedBy source sink ⊥)
    → ForSome known (λ file. MakesFile (P file) k l r) → RepliesBy (P (unwrap_or known [])) (λ qs. qs ≡ []) IsMet
    (record { report = w; file = k; judges = js })
    (record { report = w; file = l; judges = js }) Same r
replies_copied P known source sink some met same cause h =
    replies_filed (P (unwrap_or known [])) source sink (h (unwrap_or known []) (told known some)) (λ whole. met) same
    cause

-- ---- calls of no command

-- words that fit no command
pub replies_usage : {call : Call} {w k : SinkState} {js : Judges} {Same : Type 0}
    {r : Result Reply Fault} → call.roles ≡ None → Same
    → IfOk r (λ reply. outcome_of reply ≡ reports answer.Usage usage_line) → IfErr r (λ e. e ≡ Memory)
    → RepliesTo call (record { report = w; file = k; judges = js })
    (record { report = w; file = k; judges = js }) Same r
replies_usage {call} {w} {k} {js} {Same} {r} none same h memory =
    replies_as call None (record { report = w; file = k; judges = js }) (record { report = w; file = k; judges = js })
    Same r none (record {
      reply = begins_alone (IsOutcome None (handed call)) w.written r (λ a b p q. p ∙ sym q) h;
      file = takes_none (IsOutcome None (handed call)) k r (λ e p. ap (λ (o : Outcome). o.file) p);
      met = λ whole. tt;
      asked = λ qs none. heard_none ⊤ ⊤ js qs r (memory_caused r memory) none;
      unasked = λ none. same;
    })
  where
    memory_caused : (r : Result Reply Fault) → IfErr r (λ e. e ≡ Memory) → IfErr r (CausedBy ⊤ ⊤ ⊥)
    memory_caused (Ok reply) h = tt
    memory_caused (Err e) h = subst (CausedBy ⊤ ⊤ ⊥) (sym h) tt

-- nothing was taken of a file where memory ran out before anything was done
untaken : (file : Option (List ℕ)) (k : SinkState) → TakesFile file k k (Err Memory)
untaken None k = refl
untaken (Some file) k = inl refl

-- words that couldn't be read for want of memory
pub replies_memory : {call : Call} {w k : SinkState} {js : Judges} {Same : Type 0} → Same
    → RepliesTo call (record { report = w; file = k; judges = js })
    (record { report = w; file = k; judges = js }) Same (Err Memory)
replies_memory {call} {w} {k} same = record {
  reply = λ e h. nothing_written w.written e.report;
  file = λ e h. untaken e.file k;
  met = λ whole. absurd (false≢true (sym whole.before ∙ whole.is_finished));
  asked = λ qs asks. record { prefix = []; rest = qs; split = refl; asked = refl };
  unasked = λ none. same;
}
