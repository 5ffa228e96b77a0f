-- What a command replies and leaves whose call below builds a new store, by the kind of the error that it ends with.
use Rattle.std.proofs.Common.{◌≡◌, ◌≢◌, ◌⊎◌, refl, sym, ap, ◌∙◌, subst, inl, inr, ℕ, Bool, true, false, List, [], Option, Some, None, unwrap_or}
use Rattle.std.specs.Prelude.{⊤, IfErr, IfOk, IsSome, OnOk, Ok, Err}
use Rattle.std.specs.declared.result.Result.{Result}
use Rattle.std.proofs.lemmas.Bool.{false≢true}
use Rattle.c2_base.specs.Causes.{Rose}
use Rattle.c2_copying.specs.Writing.{EndsSink}
use Rattle.c2_build_refusals.specs.Kinds as kind
use Rattle.c2_build_refusals.specs.Kinds.{ComesAs, HasOutcome, Effects, ErrorKind, IsSourceCause, KindSays, MayCome, kind_of}
use Rattle.c2_build_refusals.specs.Sinks.{EndsOut, IsOutCause, IsSinkCause, KindLeaves}
use Rattle.c2_build_refusals.specs.declared.error.BuildError.{BuildError}
use Rattle.c2_build_refusals.specs.declared.types.Embedded.{Embedded}
use Rattle.c2_build_endings.specs.Endings.{build_ending, kind_ending}
use Rattle.c2_cmd_outcome.specs.Left.{SinkState, state_of}
use Rattle.c2_cmd_outcome.specs.Outcome.{Outcome, reports}
use Rattle.c2_cmd_outcome.specs.Reply.{CausedBy, HasWhole, IsOutputCause, IsReplyTo, outcome_of}
use Rattle.c2_cmd_outcome.specs.declared.reply.Fault.{Fault}
use Rattle.c2_cmd_outcome.specs.declared.reply.Reply.{Reply}
use Rattle.c2_cmd_outcome.specs.declared.types.Answer.TheVariants as answer
use Rattle.c2_cmd_written_spec.specs.Builds.{IsBuildReply, IsRefusalKind, IsRefusedBy, build_says, embedded_outcome, error_says, kind_fault, new_file_outcome, range_outcome, refused_build, result_outcome, unless_fault}
use Rattle.c2_cmd_written_spec.specs.Written.{with_file}
use Rattle.c2_cmd_written_spec.proofs.Calls.{CausedIn, FitsEnding, FitsNew, IsOutcomeOf, outcome_of_call}

-- ---- what a build tells of a source and of a sink

-- what comes only of some calls is said
come : (b : Bool) (claim : Type 0) → MayCome b claim → claim
come true claim h = h
come false claim h = absurd h

-- what comes only of some calls may come
came : (claim : Type 0) (b : Bool) → MayCome b claim → MayCome b ⊤
came claim true h = tt
came claim false h = h

-- the cause of a fault of a call that does this, by the counts of one source, and by whether another failed
abbrev pub EffectsCause : Effects → Type 0 → ℕ → ℕ → Fault → Type 0
EffectsCause does Other before now =
    CausedBy (Rose before now ⊎ Other) (MayCome does.writes_file ⊤) (MayCome does.asks_judges ⊤)

-- an error of this kind tells so of a source
kind_reads : (does : Effects) (Other : Type 0) (before now : ℕ) (k : ErrorKind) (o : Outcome)
    → IsSourceCause does Other before now k
    → CausedIn (EffectsCause does Other) before now (unless_fault (kind_fault k) o)
kind_reads does Other before now kind.refusal o cause = cause
kind_reads does Other before now kind.message_refusal o cause = come does.reads_message (now ≡ before) cause
kind_reads does Other before now kind.front_refusal o cause = come does.moves_tables (now ≡ before) cause
kind_reads does Other before now kind.older_refusal o cause = come does.takes_older (now ≡ before) cause
kind_reads does Other before now kind.other_refusal o cause = come does.takes_other (now ≡ before) cause
kind_reads does Other before now kind.read_fault o cause = cause
kind_reads does Other before now kind.judge_fault o cause = cause
kind_reads does Other before now kind.write_fault o cause = cause
kind_reads does Other before now kind.no_memory o cause = tt

-- what a build tells of a source
pub build_reads : {A : Type 0} (report : A → Outcome) (does : Effects) (Other : Type 0) (before now : ℕ) (r : Result A BuildError)
    → OnOk r (now ≡ before) → IfErr r (λ e. IsSourceCause does Other before now (kind_of e))
    → CausedIn (EffectsCause does Other) before now (build_says report r)
build_reads report does Other before now (Ok a) quiet cause = quiet
build_reads report does Other before now (Err e) quiet cause =
    kind_reads does Other before now (kind_of e) (refused_build e) cause

-- an error of this kind tells so of the sink
kind_writes : (before now : ℕ) (k : ErrorKind) (o : Outcome) → IsSinkCause before now k
    → CausedIn IsOutputCause before now (unless_fault (kind_fault k) o)
kind_writes before now kind.refusal o cause = cause
kind_writes before now kind.message_refusal o cause = cause
kind_writes before now kind.front_refusal o cause = cause
kind_writes before now kind.older_refusal o cause = cause
kind_writes before now kind.other_refusal o cause = cause
kind_writes before now kind.read_fault o cause = tt
kind_writes before now kind.judge_fault o cause = tt
kind_writes before now kind.write_fault o cause = cause
kind_writes before now kind.no_memory o cause = tt

-- what a build tells of its sink
pub build_writes : {A : Type 0} (report : A → Outcome) (before now : ℕ) (r : Result A BuildError)
    → OnOk r (now ≡ before)
    → IfErr r (IsOutCause before now) → CausedIn IsOutputCause before now (build_says report r)
build_writes report before now (Ok a) quiet cause = quiet
build_writes report before now (Err e) quiet cause = kind_writes before now (kind_of e) (refused_build e) cause

-- ---- how it ended

-- what is said of an error of this kind fits how the build ended
kind_fits : (k : ErrorKind) (line : List ℕ)
    → FitsEnding (kind_ending k) (unless_fault (kind_fault k) (reports answer.BuildRefused line))
kind_fits kind.refusal line = λ e. cc (e)
kind_fits kind.message_refusal line = λ e. cc (e)
kind_fits kind.front_refusal line = λ e. cc (e)
kind_fits kind.older_refusal line = λ e. cc (e)
kind_fits kind.other_refusal line = λ e. cc (e)
kind_fits kind.read_fault line = refl
kind_fits kind.judge_fault line = λ e. cc (e)
kind_fits kind.write_fault line = refl
kind_fits kind.no_memory line = λ e. cc (e)

-- what is said of a build fits how it ended, where what is built is reported as done
pub build_fits : {A : Type 0} (report : A → Outcome) (r : Result A BuildError)
    → ((a : A) → (report a).answer ≡ answer.Done)
    → FitsEnding (build_ending r) (build_says report r)
build_fits report (Ok a) done = done a
build_fits report (Err e) done = kind_fits (kind_of e) (refused_build e).report

-- the sink is left as the kind of the error says
kind_ends : {K : Type 0} (finished : K → Bool) (old new : K) (k : ErrorKind) → finished new ≡ finished old
    → KindLeaves k (new ≡ old)
    → EndsSink finished old new (kind_ending k)
kind_ends finished old new kind.refusal same left = record { finish = same; leaves = left }
kind_ends finished old new kind.message_refusal same left = record { finish = same; leaves = left }
kind_ends finished old new kind.front_refusal same left = record { finish = same; leaves = left }
kind_ends finished old new kind.older_refusal same left = record { finish = same; leaves = left }
kind_ends finished old new kind.other_refusal same left = record { finish = same; leaves = left }
kind_ends finished old new kind.read_fault same left = record { finish = same; leaves = tt }
kind_ends finished old new kind.judge_fault same left = record { finish = same; leaves = left }
kind_ends finished old new kind.write_fault same left = record { finish = same; leaves = tt }
kind_ends finished old new kind.no_memory same left = record { finish = same; leaves = left }

-- the sink is left as the ending of a build says
pub build_ends : {K A : Type 0} (finished : K → Bool) (old new : K) (r : Result A BuildError)
    → EndsOut finished old new r
    → EndsSink finished old new (build_ending r)
build_ends finished old new (Ok a) ends = record { finish = ends.finish; leaves = tt }
build_ends finished old new (Err e) ends = kind_ends finished old new (kind_of e) ends.finish ends.untouched

-- ---- what is replied

-- a reply to a refusal isn't done
refused_undone : (line : List ℕ) (reply : Reply) → outcome_of reply ≡ reports answer.BuildRefused line
    → reply.answer ≢ answer.Done
refused_undone line reply out = λ done. let both = sym (ap (λ (o : Outcome). o.answer) out) ∙ done in cc (both)

-- what is said of an error of this kind is no word that the words fit no command
kind_words : (k : ErrorKind) (line : List ℕ)
    → IfOk (unless_fault (kind_fault k) (reports answer.BuildRefused line)) (λ o. o.answer ≢ answer.Usage)
kind_words kind.refusal line = λ e. cc (e)
kind_words kind.message_refusal line = λ e. cc (e)
kind_words kind.front_refusal line = λ e. cc (e)
kind_words kind.older_refusal line = λ e. cc (e)
kind_words kind.other_refusal line = λ e. cc (e)
kind_words kind.read_fault line = tt
kind_words kind.judge_fault line = tt
kind_words kind.write_fault line = tt
kind_words kind.no_memory line = tt

-- a reply to an error of this kind isn't done
kind_undone : (k : ErrorKind) (line : List ℕ) (reply : Reply)
    → IsReplyTo (unless_fault (kind_fault k) (reports answer.BuildRefused line)) reply
    → reply.answer ≢ answer.Done
kind_undone kind.refusal line reply out = refused_undone line reply out
kind_undone kind.message_refusal line reply out = refused_undone line reply out
kind_undone kind.front_refusal line reply out = refused_undone line reply out
kind_undone kind.older_refusal line reply out = refused_undone line reply out
kind_undone kind.other_refusal line reply out = refused_undone line reply out
kind_undone kind.read_fault line reply out = absurd out
kind_undone kind.judge_fault line reply out = absurd out
kind_undone kind.write_fault line reply out = absurd out
kind_undone kind.no_memory line reply out = absurd out

-- what is said of a build isn't that its words are wrong
pub build_words : {A : Type 0} (report : A → Outcome) (r : Result A BuildError)
    → ((a : A) → (report a).answer ≡ answer.Done)
    → IfOk (build_says report r) (λ o. o.answer ≢ answer.Usage)
build_words report (Ok a) done = λ usage. let both = sym (done a) ∙ usage in cc (both)
build_words report (Err e) done = kind_words (kind_of e) (refused_build e).report

-- a reply to an error of this kind is one to a refusal, which says what the inputs come to
kind_refused : (k : ErrorKind) (o : Outcome) (claim : Type 0) (reply : Reply) → KindSays k claim
    → IsReplyTo (unless_fault (kind_fault k) o) reply → claim × (outcome_of reply ≡ o)
kind_refused kind.refusal o claim reply says reports = (says, reports)
kind_refused kind.message_refusal o claim reply says reports = (says, reports)
kind_refused kind.front_refusal o claim reply says reports = (says, reports)
kind_refused kind.older_refusal o claim reply says reports = (says, reports)
kind_refused kind.other_refusal o claim reply says reports = (says, reports)
kind_refused kind.read_fault o claim reply says reports = absurd reports
kind_refused kind.judge_fault o claim reply says reports = absurd reports
kind_refused kind.write_fault o claim reply says reports = absurd reports
kind_refused kind.no_memory o claim reply says reports = absurd reports

-- a reply to a build reports what the inputs come to
pub build_replied : {A : Type 0} (report : A → Outcome) (Is : Result A BuildError → Type 0) (r : Result A BuildError) (reply : Result Reply Fault)
    → HasOutcome Is r → IfOk reply (IsReplyTo (build_says report r))
    → IfOk reply (λ x. (s : Result A BuildError) × Is s × (outcome_of x ≡ result_outcome report s))
build_replied report Is (Ok a) (Ok x) is out = (Ok a, is, out)
build_replied report Is (Err e) (Ok x) is out =
    let both = kind_refused (kind_of e) (refused_build e) (Is (Err e)) x is out in (Err e, both.0, both.1)
build_replied report Is r (Err f) is out = tt

-- a refusal of this kind comes of a call that does this
kind_comes : (does : Effects) (Other : Type 0) (before now : ℕ) (k : ErrorKind) (o : Outcome) (reply : Reply)
    → IsSourceCause does Other before now k
    → IsReplyTo (unless_fault (kind_fault k) o) reply → IsRefusalKind does k × (outcome_of reply ≡ o)
kind_comes does Other before now kind.refusal o reply cause out = (tt, out)
kind_comes does Other before now kind.message_refusal o reply cause out = (came _ does.reads_message cause, out)
kind_comes does Other before now kind.front_refusal o reply cause out = (came _ does.moves_tables cause, out)
kind_comes does Other before now kind.older_refusal o reply cause out = (came _ does.takes_older cause, out)
kind_comes does Other before now kind.other_refusal o reply cause out = (came _ does.takes_other cause, out)
kind_comes does Other before now kind.read_fault o reply cause out = absurd out
kind_comes does Other before now kind.judge_fault o reply cause out = absurd out
kind_comes does Other before now kind.write_fault o reply cause out = absurd out
kind_comes does Other before now kind.no_memory o reply cause out = absurd out

-- a reply to a build reports something that the call can come to
pub build_within : {A : Type 0} (report : A → Outcome) (does : Effects) (Other : Type 0) (before now : ℕ) (r : Result A BuildError)
    (reply : Result Reply Fault) → IfErr r (λ e. IsSourceCause does Other before now (kind_of e))
    → IfOk reply (IsReplyTo (build_says report r)) → IfOk reply (IsBuildReply (IsRefusedBy does) report)
build_within report does Other before now (Ok a) (Ok x) cause out = (Ok a, tt, out)
build_within report does Other before now (Err e) (Ok x) cause out =
    let both = kind_comes does Other before now (kind_of e) (refused_build e) x cause out in (Err e, both.0, both.1)
build_within report does Other before now r (Err f) cause out = tt

-- where an error comes, the file isn't whole: the call hasn't finished it, and the reply isn't done
not_whole : (e : BuildError) (r : Result Reply Fault) (claim : Type 0) (old new : SinkState)
    → new.finished ≡ old.finished
    → IfOk r (IsReplyTo (error_says e)) → HasWhole old new r → claim
not_whole e (Ok reply) claim old new same out (inl done) =
    absurd (kind_undone (kind_of e) (refused_build e).report reply out done)
not_whole e (Ok reply) claim old new same out (inr whole) =
    absurd (false≢true (sym whole.before ∙ sym same ∙ whole.is_finished))
not_whole e (Err f) claim old new same out whole = absurd (false≢true (sym whole.before ∙ sym same ∙ whole.is_finished))

-- what is met where something is built is met where the file is whole
pub build_met : {K A : Type 0} (written : K → Option (List ℕ)) (finished : K → Bool) (old new : K) (report : A → Outcome) (r : Result A BuildError)
    (reply : Result Reply Fault) {Met : Type 0} → EndsOut finished old new r → IfOk reply
    (IsReplyTo (build_says report r)) → OnOk r Met
    → HasWhole (state_of written finished old) (state_of written finished new) reply → Met
build_met written finished old new report (Ok x) reply ends out met whole = met
build_met written finished old new report (Err e) reply {Met} ends out met whole =
    not_whole e reply Met (state_of written finished old) (state_of written finished new) ends.finish out whole

-- ---- a new file

-- the bytes of a new file, where there is one
abbrev pub new_bytes : {N : Type 0} → (N → List ℕ) → Result N BuildError → List ℕ
new_bytes bytes (Ok b) = bytes b
new_bytes bytes (Err e) = []

-- these bytes are written of inputs that come to something
abbrev pub WritesNew : {N : Type 0} → (N → List ℕ) → (Result N BuildError → Type 0) → List ℕ → Type 0
WritesNew {N} bytes Comes text = (s : Result N BuildError) × Comes s × (text ≡ new_bytes bytes s)

module _ {N : Type 0} (bytes : N → List ℕ) (told : N → Outcome) (Comes : Result N BuildError → Type 0) where
  -- the file, where there is one
  abbrev new_file : Result N BuildError → Option (List ℕ)
  new_file (Ok b) = Some (bytes b)
  new_file (Err e) = None

  -- what is reported
  abbrev new_told : Result N BuildError → Outcome
  new_told (Ok b) = told b
  new_told (Err e) = refused_build e

  -- the new file and what is reported are the outcome
  new_both : (s : Result N BuildError) → new_file_outcome bytes told s ≡ with_file (new_file s) (new_told s)
  new_both (Ok b) = refl
  new_both (Err e) = refl

  -- the new file has the bytes of what is built
  new_same : (s : Result N BuildError) → new_bytes bytes s ≡ unwrap_or (new_file s) []
  new_same (Ok b) = refl
  new_same (Err e) = refl

  -- what is said of an error of this kind is what the inputs come to
  kind_told : (k : ErrorKind) (e : BuildError) (s : Result N BuildError) → KindSays k (s ≡ Err e)
      → IfOk (unless_fault (kind_fault k) (refused_build e)) (λ o. o ≡ new_told s)
  kind_told kind.refusal e s says = sym (ap new_told says)
  kind_told kind.message_refusal e s says = sym (ap new_told says)
  kind_told kind.front_refusal e s says = sym (ap new_told says)
  kind_told kind.older_refusal e s says = sym (ap new_told says)
  kind_told kind.other_refusal e s says = sym (ap new_told says)
  kind_told kind.read_fault e s says = tt
  kind_told kind.judge_fault e s says = tt
  kind_told kind.write_fault e s says = tt
  kind_told kind.no_memory e s says = tt

  -- there is no file where the build is refused with an error of this kind
  kind_new : (k : ErrorKind) (e : BuildError) (s : Result N BuildError) → KindSays k (s ≡ Err e)
      → FitsNew (kind_ending k) (unless_fault (kind_fault k) (refused_build e)) (new_file s)
  kind_new kind.refusal e s says = ap new_file says
  kind_new kind.message_refusal e s says = ap new_file says
  kind_new kind.front_refusal e s says = ap new_file says
  kind_new kind.older_refusal e s says = ap new_file says
  kind_new kind.other_refusal e s says = ap new_file says
  kind_new kind.read_fault e s says = tt
  kind_new kind.judge_fault e s says = tt
  kind_new kind.write_fault e s says = tt
  kind_new kind.no_memory e s says = tt

  -- what is refused is what inputs come to that come to one thing
  kind_one : (k : ErrorKind) (e : BuildError) (s : Result N BuildError)
      → ((x y : Result N BuildError) → Comes x → Comes y → x ≡ y) → Comes s → KindSays k (Comes (Err e))
      → KindSays k (s ≡ Err e)
  kind_one kind.refusal e s one is says = one s (Err e) is says
  kind_one kind.message_refusal e s one is says = one s (Err e) is says
  kind_one kind.front_refusal e s one is says = one s (Err e) is says
  kind_one kind.older_refusal e s one is says = one s (Err e) is says
  kind_one kind.other_refusal e s one is says = one s (Err e) is says
  kind_one kind.read_fault e s one is says = tt
  kind_one kind.judge_fault e s one is says = tt
  kind_one kind.write_fault e s one is says = tt
  kind_one kind.no_memory e s one is says = tt

  -- an outcome of the command is what the build came to
  pub build_outcome : {A : Type 0} (report : A → Outcome) (r : Result A BuildError)
      → ((x y : Result N BuildError) → Comes x → Comes y → x ≡ y) → ComesAs (λ x b. report x ≡ told b) Comes r
      → (expected : Outcome) → ((s : Result N BuildError) × Comes s × (expected ≡ new_file_outcome bytes told s))
      → IsOutcomeOf (WritesNew bytes Comes) (build_ending r) (build_says report r) expected
  build_outcome {A} report r one comes expected is =
      outcome_of_call (WritesNew bytes Comes) (build_ending r) (build_says report r) expected (new_file is.0)
      (new_told is.0) (is.2 ∙ new_both is.0)
      (said r comes) (is.0, is.1, sym (new_same is.0))
      (λ text w. w.2 ∙ ap (new_bytes bytes) (one w.0 is.0 w.1 is.1) ∙ new_same is.0) (new r comes)
    where
      said : (r : Result A BuildError) → ComesAs (λ x b. report x ≡ told b) Comes r
          → IfOk (build_says report r) (λ o. o ≡ new_told is.0)
      said (Ok x) comes = comes.2 ∙ sym (ap new_told (one is.0 (Ok comes.0) is.1 comes.1))
      said (Err e) comes = kind_told (kind_of e) e is.0 (kind_one (kind_of e) e is.0 one is.1 comes)

      new : (r : Result A BuildError) → ComesAs (λ x b. report x ≡ told b) Comes r
          → FitsNew (build_ending r) (build_says report r) (new_file is.0)
      new (Ok x) comes =
          subst (λ (s : Result N BuildError). IsSome (new_file s)) (sym (one is.0 (Ok comes.0) is.1 comes.1)) refl
      new (Err e) comes = kind_new (kind_of e) e is.0 (kind_one (kind_of e) e is.0 one is.1 comes)

-- ---- the range of a new file

-- a range that has this start and this length is reported so
pub range_reported : (x : Embedded) (start len : ℕ) → x.start ≡ start → x.length ≡ len
    → embedded_outcome x ≡ range_outcome start len
range_reported x start len same_start same_len =
    ap (λ (n : ℕ). range_outcome n x.length) same_start ∙ ap (range_outcome start) same_len
