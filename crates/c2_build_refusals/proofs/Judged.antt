-- What judges hear in a build, call by call.
use Rattle.std.proofs.Common.{◌≡◌, ◌≢◌, ℕ, List, [], Option, map, Result, Ok, Err, IfErr, refl, subst}
use Rattle.std.specs.Prelude.{⊤}
use Rattle.std.specs.declared.alloc.Global.{Global}
use Rattle.std.specs.declared.vec.Vec.{Vec}
use Rattle.c2_base.specs.declared.values.Question.{Question}
use Rattle.c2_spec.specs.Judges.Panel.{judges_of, panel_says}
use Rattle.c2_spec.specs.declared.panel.Verdict.{Verdict}
use Rattle.c2_rules.specs.Asking.{HasHeardSoFar, HearsPanel, IsJudgeCause, broken}
use Rattle.c2_rules.proofs.AskingLemmas.{front_none, stays}
use Rattle.c2_calls_spec.proofs.PanelLemmas.{asked_none, hears_error, hears_later, hears_nobody, hears_same}
use Rattle.c2_build_refusals.specs.Kinds.{Effects, ErrorKind, IsOlderQuiet, IsOlderQuietKind, IsQuiet, IsQuietKind, IsReadKind, KindSays, WithoutFault, build_heard}
use Rattle.c2_build_refusals.specs.Kinds.{front_refusal, heard_of, judge_fault, kind_of, message_refusal, no_memory, older_refusal, other_refusal, read_fault, refusal, write_fault}
use Rattle.c2_build_refusals.specs.declared.error.BuildError.{BuildError}
use Rattle.c2_build_refusals.proofs.Outside.{outside_all, quiet_older}

-- ---- errors

-- an error of this kind comes of no judge
abbrev pub IsUnjudged : ErrorKind → Type 0
IsUnjudged judge_fault = ⊥
IsUnjudged k = ⊤

-- an error of this kind comes neither of a judge nor of a sink
abbrev pub IsUnheard : ErrorKind → Type 0
IsUnheard judge_fault = ⊥
IsUnheard write_fault = ⊥
IsUnheard k = ⊤

-- an error of a step that reads comes neither of a judge nor of a sink
pub read_unheard : (does : Effects) (m n : ℕ) (k : ErrorKind) → IsReadKind does m n k → IsUnheard k
read_unheard does m n refusal h = tt
read_unheard does m n message_refusal h = tt
read_unheard does m n front_refusal h = tt
read_unheard does m n older_refusal h = tt
read_unheard does m n other_refusal h = tt
read_unheard does m n read_fault h = tt
read_unheard does m n judge_fault h = h
read_unheard does m n write_fault h = h
read_unheard does m n no_memory h = tt

-- an error of a step that doesn't read comes neither of a judge nor of a sink
pub older_unheard : (k : ErrorKind) → IsOlderQuietKind k → IsUnheard k
older_unheard refusal h = tt
older_unheard message_refusal h = tt
older_unheard front_refusal h = tt
older_unheard older_refusal h = tt
older_unheard other_refusal h = tt
older_unheard read_fault h = tt
older_unheard judge_fault h = h
older_unheard write_fault h = h
older_unheard no_memory h = tt

-- whatever it builds over
pub quiet_unheard : (k : ErrorKind) → IsQuietKind k → IsUnheard k
quiet_unheard k h = older_unheard k (quiet_older k h)

-- no judge fails there
unheard_unjudged : (k : ErrorKind) → IsUnheard k → IsUnjudged k
unheard_unjudged refusal h = tt
unheard_unjudged message_refusal h = tt
unheard_unjudged front_refusal h = tt
unheard_unjudged older_refusal h = tt
unheard_unjudged other_refusal h = tt
unheard_unjudged read_fault h = tt
unheard_unjudged judge_fault h = h
unheard_unjudged write_fault h = tt
unheard_unjudged no_memory h = tt

-- an error that comes of no judge breaks off at none
unbroken : (k : ErrorKind) → IsUnjudged k → heard_of k ≢ broken
unbroken refusal h = λ is. cc (is)
unbroken message_refusal h = λ is. cc (is)
unbroken front_refusal h = λ is. cc (is)
unbroken older_refusal h = λ is. cc (is)
unbroken other_refusal h = λ is. cc (is)
unbroken read_fault h = λ is. cc (is)
unbroken judge_fault h = absurd h
unbroken write_fault h = λ is. cc (is)
unbroken no_memory h = λ is. cc (is)

-- a result whose errors come of no judge breaks off at none
pub never_broken : {U : Type 0} (s : Result U BuildError) → IfErr s (λ e. IsUnjudged (kind_of e))
    → IfErr s (λ e. build_heard e ≢ broken)
never_broken (Ok y) q = tt
never_broken (Err e) q = unbroken (kind_of e) q

-- ---- a panel

module _ {J : Type 0} {says : J → Question → Verdict} {times faults : J → ℕ} where
  -- nobody is asked, as is due where what is read is refused
  pub hears_none :
      {T : Type 0} {Asks : (Question → Verdict) → List Question → Type 0} (v : Vec J Global) (e : BuildError)
      → IsUnheard (kind_of e)
      → WithoutFault e ((qs : List Question) → Asks (panel_says (map says v.items)) qs → qs ≡ [])
      → HearsPanel {T = T} says times faults build_heard Asks v v (Err e)
  hears_none {T} {Asks} v e quiet none = record {
    stays = stays {T = T} (judges_of says times faults v.items) (Err e);
    len = refl;
    cause = still (kind_of e) quiet;
    asked = λ qs asks. heard qs asks (kind_of e) quiet none;
    unasked = λ is. refl;
  }
    where
      still : (k : ErrorKind) → IsUnheard k → IsJudgeCause (map faults v.items) (map faults v.items) (heard_of k)
      still refusal h = refl
      still message_refusal h = refl
      still front_refusal h = refl
      still older_refusal h = refl
      still other_refusal h = refl
      still read_fault h = tt
      still judge_fault h = absurd h
      still write_fault h = absurd h
      still no_memory h = tt

      heard : (qs : List Question) → Asks (panel_says (map says v.items)) qs → (k : ErrorKind) → IsUnheard k
          → KindSays k ((ps : List Question) → Asks (panel_says (map says v.items)) ps → ps ≡ [])
          → HasHeardSoFar (heard_of k) qs (judges_of says times faults v.items) (judges_of says times faults v.items)
      heard qs asks refusal h n = asked_none (map says v.items) qs (map times v.items) (n qs asks)
      heard qs asks message_refusal h n = asked_none (map says v.items) qs (map times v.items) (n qs asks)
      heard qs asks front_refusal h n = asked_none (map says v.items) qs (map times v.items) (n qs asks)
      heard qs asks older_refusal h n = asked_none (map says v.items) qs (map times v.items) (n qs asks)
      heard qs asks other_refusal h n = asked_none (map says v.items) qs (map times v.items) (n qs asks)
      heard qs asks read_fault h n = front_none (map says v.items) qs (map times v.items)
      heard qs asks judge_fault h n = absurd h
      heard qs asks write_fault h n = absurd h
      heard qs asks no_memory h n = front_none (map says v.items) qs (map times v.items)

  -- nobody is asked by a step that neither reads nor asks, where nothing is to be asked
  pub hears_quiet :
      {T : Type 0} {Asks : (Question → Verdict) → List Question → Type 0} (v : Vec J Global) (r : Result T BuildError)
      → IfErr r IsQuiet
      → ((qs : List Question) → Asks (panel_says (map says v.items)) qs → qs ≡ [])
      → HearsPanel says times faults build_heard Asks v v r
  hears_quiet {T} {Asks} v (Ok x) quiet none = hears_nobody says times faults build_heard Asks v x none
  hears_quiet {T} {Asks} v (Err e) quiet none = hears_none v e (quiet_unheard (kind_of e) quiet) (outside_all e none)

  -- an error is handed up
  pub hears_failed :
      {T U : Type 0} {Asks Below : (Question → Verdict) → List Question → Type 0} (old new : Vec J Global)
      (e : BuildError)
      → ((qs : List Question) → Asks (panel_says (map says old.items)) qs → Below (panel_says (map says old.items)) qs)
      → HearsPanel {T = T} says times faults build_heard Below old new (Err e)
      → HearsPanel {T = U} says times faults build_heard Asks old new (Err e)
  hears_failed {T} {U} {Asks} {Below} old new e among h =
      hears_error {T = T} {U = U} says times faults build_heard build_heard Asks Below old new e e refl among h

  -- all questions were asked, and then comes an answer by which no judge failed
  pub hears_behind :
      {T U : Type 0} {Asks Below : (Question → Verdict) → List Question → Type 0} (old new : Vec J Global) (x : T)
      (r : Result U BuildError)
      → IfErr r (λ e. IsUnjudged (kind_of e))
      → ((qs : List Question) → Asks (panel_says (map says old.items)) qs → Below (panel_says (map says old.items)) qs)
      → HearsPanel {T = T} says times faults build_heard Below old new (Ok x)
      → HearsPanel says times faults build_heard Asks old new r
  hears_behind {T} {U} {Asks} {Below} old new x r quiet among h =
      hears_later {T = T} {U = U} says times faults build_heard build_heard Asks Below old new x r
      (never_broken r quiet) among h

  -- a source told the same before
  pub hears_told :
      {T : Type 0} (Asks : Option (List ℕ) → (Question → Verdict) → List Question → Type 0)
      (known now : Option (List ℕ)) (old new : Vec J Global) (r : Result T BuildError)
      → now ≡ known
      → HearsPanel says times faults build_heard (Asks now) old new r
      → HearsPanel says times faults build_heard (Asks known) old new r
  hears_told {T} Asks known now old new r same h =
      subst (λ (k : Option (List ℕ)). HearsPanel says times faults build_heard (Asks k) old new r) same h

  -- a call that asks what the one below does
  pub hears_as :
      {T : Type 0} {Asks Below : (Question → Verdict) → List Question → Type 0} (old new : Vec J Global)
      (r : Result T BuildError)
      → ((qs : List Question) → Asks (panel_says (map says old.items)) qs → Below (panel_says (map says old.items)) qs)
      → HearsPanel says times faults build_heard Below old new r
      → HearsPanel says times faults build_heard Asks old new r
  hears_as {T} {Asks} {Below} old new r among h = hears_same says times faults build_heard Asks Below old new r among h

-- ---- results

-- a step that reads breaks off at no judge
pub read_result : {T : Type 0} (does : Effects) (m n : ℕ) (r : Result T BuildError)
    → IfErr r (λ e. IsReadKind does m n (kind_of e)) → IfErr r (λ e. IsUnjudged (kind_of e))
read_result does m n (Ok x) h = tt
read_result does m n (Err e) h = unheard_unjudged (kind_of e) (read_unheard does m n (kind_of e) h)

-- a step that doesn't read breaks off at no judge
pub older_result : {T : Type 0} (r : Result T BuildError) → IfErr r IsOlderQuiet → IfErr r (λ e. IsUnjudged (kind_of e))
older_result (Ok x) h = tt
older_result (Err e) h = unheard_unjudged (kind_of e) (older_unheard (kind_of e) h)
