-- The lines of manifests that are asked of one after the other, and what was asked for them.
use Rattle.std.proofs.Common.{◌≡◌, ℕ, ◌+◌, ◌<◌, List, [], ◌∷◌, ◌++◌, length, drop, get_or, Option, Some, refl, sym, ap, ◌∙◌, subst, append_assoc, append-nil}
use Rattle.std.specs.Prelude.{⊤, Result}
use Rattle.std.specs.Option.{option_to_list}
use Rattle.std.specs.declared.alloc.Global.{Global}
use Rattle.std.specs.declared.result.Result.TheVariants.{Ok, Err}
use Rattle.std.specs.declared.vec.Vec.{Vec}
use Rattle.std.proofs.lemmas.List.{drop_more}
use Rattle.c2_base.specs.declared.values.Question.{Question}
use Rattle.c2_calls_spec.specs.Asks.{AsksThese}
use Rattle.c2_calls_spec.proofs.PanelLemmas.{hears_error, hears_later, hears_more, hears_next, hears_nobody}
use Rattle.c2_spec.specs.declared.panel.Verdict.{Verdict}
use Rattle.c2_spec.specs.Judges.Panel.{panel_says}
use Rattle.c2_rules.specs.Asking.{HearsPanel}
use Rattle.c2_rules.specs.CheckList.{Asked}
use Rattle.c2_cmd_outcome.specs.Reply.{CausedBy, fault_heard}
use Rattle.c2_cmd_outcome.specs.declared.reply.Fault.{Fault}
use Rattle.c2_cmd_reading.specs.Outcomes.{verdict_line, verdict_lines}
use Rattle.c2_cmd_reading.specs.Reading.{HasAskedBefore, questions_in}
use Rattle.c2_cmd_reading.proofs.Faults.{not_all}

-- what is left of the manifests, one on
on : (asked : List Asked) (i : ℕ) (d : Asked) → i < length asked → drop i asked ≡ get_or asked i d ∷ drop (i + 1) asked
on asked i d lt = drop_more asked i d lt

-- the questions of the manifests that are left, one on
pub questions_on : (asked : List Asked) (i : ℕ) (one : Asked) → i < length asked → one ≡ get_or asked i one
    → questions_in (drop i asked) ≡ option_to_list one.question ++ questions_in (drop (i + 1) asked)
questions_on asked i one lt is =
    ap questions_in (on asked i one lt)
    ∙ ap (λ (a : Asked). option_to_list a.question ++ questions_in (drop (i + 1) asked)) (sym is)

-- the text so far, one line on
pub lines_more : (said saying : List (Question → Verdict)) (asked : List Asked) (i : ℕ) (one : Asked) (old new : List ℕ)
    → saying ≡ said → i < length asked → one ≡ get_or asked i one
    → verdict_lines (panel_says said) asked ≡ old ++ verdict_lines (panel_says said) (drop i asked)
    → new ≡ old ++ verdict_line (panel_says saying) one.label one.question
    → verdict_lines (panel_says said) asked ≡ new ++ verdict_lines (panel_says said) (drop (i + 1) asked)
lines_more said saying asked i one old new same lt is so_far line =
    step (panel_says said) so_far
    (line ∙ ap (λ (x : List (Question → Verdict)). old ++ verdict_line (panel_says x) one.label one.question) same)
  where
    step : (says : Question → Verdict) → verdict_lines says asked ≡ old ++ verdict_lines says (drop i asked)
        → new ≡ old ++ verdict_line says one.label one.question
        → verdict_lines says asked ≡ new ++ verdict_lines says (drop (i + 1) asked)
    step says so_far line =
        so_far
        ∙ ap (λ (l : List Asked). old ++ verdict_lines says l) (on asked i one lt)
        ∙ ap (λ (a : Asked). old ++ (verdict_line says a.label a.question ++ verdict_lines says (drop (i + 1) asked)))
        (sym is)
        ∙ sym (append_assoc old (verdict_line says one.label one.question) (verdict_lines says (drop (i + 1) asked)))
        ∙ ap (λ (l : List ℕ). l ++ verdict_lines says (drop (i + 1) asked)) (sym line)

-- ---- what was asked

module _ {J : Type 0} (says : J → Question → Verdict) (times faults : J → ℕ) where
  -- a question that there is
  pub hears_some : {T : Type 0} (o : Option Question) (q : Question) (old new : Vec J Global) (r : Result T Fault)
      → o ≡ Some q → HearsPanel says times faults fault_heard (AsksThese (q ∷ [])) old new r
      → HearsPanel says times faults fault_heard (AsksThese (option_to_list o)) old new r
  hears_some o q old new r is h =
      subst (λ (x : Option Question). HearsPanel says times faults fault_heard (AsksThese (option_to_list x)) old new r)
      (sym is) h

  -- nothing, before the first manifest
  pub asked_first : (qs : List Question) (js : Vec J Global) → HasAskedBefore says times faults qs qs js js
  asked_first qs js =
      record
      { front = []; split = refl; heard = hears_nobody says times faults fault_heard (AsksThese []) js tt (λ ps is. is) }

  -- the questions of one more manifest were asked
  pub asked_more : {T : Type 0} (all qs rest next : List Question) (old between new : Vec J Global) (x : T)
      → rest ≡ qs ++ next → HasAskedBefore says times faults all rest old between
      → HearsPanel {E = Fault} says times faults fault_heard (AsksThese qs) between new (Ok x)
      → HasAskedBefore says times faults all next old new
  asked_more all qs rest next old between new x is h k = record {
    front = h.front ++ qs;
    split = h.split ∙ ap (λ (l : List Question). h.front ++ l) is ∙ sym (append_assoc h.front qs next);
    heard = hears_later says times faults fault_heard fault_heard (AsksThese (h.front ++ qs)) (AsksThese (h.front ++ qs)) old new x (Ok tt) tt (λ ps asks. asks)
        (hears_next says times faults fault_heard fault_heard h.front qs old between new tt (Ok x) h.heard k);
  }

  -- the questions of all manifests were asked
  pub asked_all : {T : Type 0} (all rest : List Question) (old new : Vec J Global) (x : T) → rest ≡ []
      → HasAskedBefore says times faults all rest old new
      → HearsPanel {E = Fault} says times faults fault_heard (AsksThese all) old new (Ok x)
  asked_all all rest old new x none h =
      hears_later says times faults fault_heard fault_heard (AsksThese all) (AsksThese h.front) old new tt (Ok x) tt
      (λ ps asks. asks ∙ h.split ∙ ap (λ (l : List Question). h.front ++ l) none ∙ append-nil h.front) h.heard

  -- the asking ended at a manifest
  pub asked_ended : {T U : Type 0} (all qs rest next : List Question) (old between new : Vec J Global) (e : Fault)
      → rest ≡ qs ++ next → CausedBy ⊥ ⊥ ⊤ e → HasAskedBefore says times faults all rest old between
      → HearsPanel {T = T} says times faults fault_heard (AsksThese qs) between new (Err e)
      → HearsPanel {T = U} says times faults fault_heard (AsksThese all) old new (Err e)
  asked_ended {T} {U} all qs rest next old between new e is cause h k =
      let split : all ≡ (h.front ++ qs) ++ next =
      h.split ∙ ap (λ (l : List Question). h.front ++ l) is ∙ sym (append_assoc h.front qs next) in
      hears_error {T = T} {U = U} says times faults fault_heard fault_heard (AsksThese all)
      (AsksThese ((h.front ++ qs) ++ next)) old new e e refl (λ ps asks. asks ∙ split)
      (hears_more says times faults fault_heard (h.front ++ qs) next old new e (not_all e cause) (hears_next says times faults fault_heard fault_heard h.front qs old between new tt (Err e) h.heard k))
