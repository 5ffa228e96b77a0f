-- What judges hear over both files, call by call.
use Rattle.std.proofs.Common.{◌≡◌, ℕ, List, [], ◌++◌, map, Result, Ok, Err, sym, ap, ◌∙◌, subst}
use Rattle.std.proofs.lemmas.List.{append-nil}
use Rattle.std.specs.Prelude.{⊤}
use Rattle.std.specs.declared.alloc.Global.{Global}
use Rattle.std.specs.declared.vec.Vec.{Vec}
use Rattle.c2_base.specs.declared.values.Question.{Question}
use Rattle.c2_spec.specs.Judges.Panel.{Judges, judges_of, panel_says}
use Rattle.c2_spec.specs.declared.panel.Verdict.{Verdict}
use Rattle.c2_rules.specs.Asking.{HasHeard, HasHeardSoFar, HaveAsked, HearsPanel}
use Rattle.c2_rules.proofs.AskingLemmas.{failed_more, front_more, leaves_err}
use Rattle.c2_calls_spec.proofs.PanelLemmas.{append_none, cause_next, heard_next, leaves_next}
use Rattle.c2_build_refusals.specs.Kinds.{ErrorKind, KindSays, WithoutFault, build_heard, front_refusal, heard_of, judge_fault, kind_of, message_refusal, no_memory, older_refusal, other_refusal, read_fault, refusal, write_fault}
use Rattle.c2_build_refusals.specs.declared.error.BuildError.{BuildError}

-- nothing is written
abbrev pub IsUnwritten : ErrorKind → Type 0
IsUnwritten write_fault = ⊥
IsUnwritten k = ⊤

-- more questions would have followed those of a call that broke off; where it refused something, none would
more_of : (k : ErrorKind) (ps rest : List Question) (old new : Judges) → IsUnwritten k → KindSays k (rest ≡ [])
    → HasHeardSoFar (heard_of k) ps old new → HasHeardSoFar (heard_of k) (ps ++ rest) old new
more_of k ps rest old new quiet none h = by k quiet none h
  where
    all_of : rest ≡ [] → HaveAsked old.said ps old.asked new.asked → HaveAsked old.said (ps ++ rest) old.asked new.asked
    all_of e asked =
        subst (λ (qs : List Question). HaveAsked old.said qs old.asked new.asked)
        (sym (append-nil ps) ∙ ap (λ (qs : List Question). ps ++ qs) (sym e)) asked

    by : (k : ErrorKind) → IsUnwritten k → KindSays k (rest ≡ []) → HasHeardSoFar (heard_of k) ps old new
        → HasHeardSoFar (heard_of k) (ps ++ rest) old new
    by refusal q e asked = all_of e asked
    by message_refusal q e asked = all_of e asked
    by front_refusal q e asked = all_of e asked
    by older_refusal q e asked = all_of e asked
    by other_refusal q e asked = all_of e asked
    by read_fault q e asked = front_more old.said ps rest old.asked new.asked asked
    by judge_fault q e asked = failed_more old.said ps rest old.asked new.asked old.faults new.faults asked
    by write_fault q e asked = absurd q
    by no_memory q e asked = front_more old.said ps rest old.asked new.asked asked

-- The questions of a call that broke off begin with those of the one below, and end there where that refused something.
pub record BeginsWith (Below : (Question → Verdict) → List Question → Type 0) (said : Question → Verdict) (e : BuildError) (qs : List Question) : Type 0 where
  pub first : List Question
  pub rest : List Question
  pub split : qs ≡ first ++ rest
  pub below : Below said first
  pub none : WithoutFault e (rest ≡ [])

-- The questions of a call are those of one below and then those of another.
pub record AreBoth (First Second : (Question → Verdict) → List Question → Type 0) (said : Question → Verdict) (qs : List Question) : Type 0 where
  pub first : List Question
  pub second : List Question
  pub split : qs ≡ first ++ second
  pub is_first : First said first
  pub is_second : Second said second

module _ {J : Type 0} {says : J → Question → Verdict} {times faults : J → ℕ} where
  -- a call that broke off where the one below did, which asks the first of its questions
  pub hears_begun :
      {T U : Type 0} {Asks Below : (Question → Verdict) → List Question → Type 0} (old new : Vec J Global)
      (e : BuildError)
      → IsUnwritten (kind_of e)
      → ((qs : List Question) → Asks (panel_says (map says old.items)) qs → BeginsWith Below (panel_says (map says old.items)) e qs)
      → HearsPanel {T = T} says times faults build_heard Below old new (Err e)
      → HearsPanel {T = U} says times faults build_heard Asks old new (Err e)
  hears_begun {T} {U} {Asks} {Below} old new e quiet begins h = record {
    stays = leaves_err (judges_of says times faults old.items) (judges_of says times faults new.items) e e h.stays;
    len = h.len;
    cause = h.cause;
    asked = λ qs asks.
        let b = begins qs asks in
        subst
        (λ (xs : List Question). HasHeardSoFar (build_heard e) xs (judges_of says times faults old.items) (judges_of says times faults new.items))
        (sym b.split)
        (more_of (kind_of e) b.first b.rest (judges_of says times faults old.items) (judges_of says times faults new.items) quiet b.none (h.asked b.first b.below));
    unasked = λ asks.
        let b = begins [] asks in
        h.unasked (subst (λ (xs : List Question). Below (panel_says (map says old.items)) xs) (sym (append_none b.first b.rest b.split).0) b.below);
  }

  -- a call that asks what one below asks, which has an answer, and then what another asks
  pub hears_both : {T U : Type 0} {Asks First Second : (Question → Verdict) → List Question → Type 0} (old between new : Vec J Global) (x : T) (r : Result U BuildError)
      → ((qs : List Question) → Asks (panel_says (map says old.items)) qs → AreBoth First Second (panel_says (map says old.items)) qs)
      → HearsPanel {T = T} says times faults build_heard First old between (Ok x)
      → HearsPanel says times faults build_heard Second between new r
      → HearsPanel says times faults build_heard Asks old new r
  hears_both {T} {U} {Asks} {First} {Second} old between new x r both h k = record {
    stays = leaves_next says times faults old.items between.items new.items x r h.stays k.stays;
    len = k.len ∙ h.len;
    cause =
        cause_next build_heard (map faults old.items) (map faults between.items) (map faults new.items) r h.stays.ok
        k.cause;
    asked = λ qs asks.
        let b = both qs asks in
        subst
        (λ (xs : List Question). HasHeard build_heard xs (judges_of says times faults old.items) (judges_of says times faults new.items) r)
        (sym b.split)
        (heard_next build_heard b.first b.second (judges_of says times faults old.items) (judges_of says times faults between.items) (judges_of says times faults new.items) r h.stays.same h.stays.ok
        (h.asked b.first b.is_first) (k.asked b.second (says_too b.second b.is_second)));
    unasked = λ asks.
        let b = both [] asks in
        let none = append_none b.first b.second b.split in
        k.unasked
        (says_too [] (subst (λ (xs : List Question). Second (panel_says (map says old.items)) xs) (sym none.1) b.is_second))
        ∙ h.unasked (subst (λ (xs : List Question). First (panel_says (map says old.items)) xs) (sym none.0) b.is_first);
  }
    where
      says_too : (xs : List Question) → Second (panel_says (map says old.items)) xs
          → Second (panel_says (map says between.items)) xs
      says_too xs s = subst (λ (f : List (Question → Verdict)). Second (panel_says f) xs) (sym h.stays.same) s
