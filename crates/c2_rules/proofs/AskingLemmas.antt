-- A panel that was asked one question after the other.
use Rattle.std.proofs.Common.{◌≡◌, ℕ, arith, Result, Ok, Err, List, [], ◌∷◌, ◌++◌, Option, Some, None, option_to_list, is_some, refl, sym, ap, ◌∙◌, subst, append_assoc, append-nil}
use Rattle.c2_base.specs.declared.values.Question.{Question}
use Rattle.c2_spec.specs.declared.panel.Verdict.{Verdict}
use Rattle.c2_spec.specs.Judges.Panel.{verdicts, panel_size, Counted, MovedBelow, FailedAt, Judges, LeavesJudges, NoneFell}
use Rattle.c2_rules.specs.Asking.{HaveAsked, HaveAskedPrefix, HaveFailed}
use Rattle.c2_rules.specs.Readings.{Reading, question_in}
use Rattle.c2_rules.specs.Rules.{claim_tests}
use Rattle.c2_rules.specs.Tests.{first_failing}
use Rattle.c2_rules.specs.declared.answer.Failing.{Failing}
use Rattle.c2_rules.proofs.ClaimLemmas.{asked_passes}

-- a panel that was asked one question has the counts of one round
pub asked_one : (said : List (Question → Verdict)) (q : Question) (before now : List ℕ)
    → MovedBelow Counted (panel_size (verdicts said q)) before now → HaveAsked said (q ∷ []) before now
asked_one said q before now h = (now, h, refl)

-- a panel that failed at its only question has the counts of a round that broke off
pub failed_one : (said : List (Question → Verdict)) (q : Question) (before now faults_before faults_now : List ℕ)
    → (i : ℕ) × FailedAt i (verdicts said q) before now faults_before faults_now
    → HaveFailed said (q ∷ []) before now faults_before faults_now
failed_one said q before now faults_before faults_now h =
    record
    { prefix = []; question = q; rest = []; split = refl; between = before; asked = refl; judge = h.0; failed = h.1 }

-- a panel that failed at a question that may be none, and is there, has the counts of a round that broke off
pub failed_some :
    (said : List (Question → Verdict)) (o : Option Question) (q : Question)
    (before now faults_before faults_now : List ℕ)
    → o ≡ Some q → (i : ℕ) × FailedAt i (verdicts said q) before now faults_before faults_now
    → HaveFailed said (option_to_list o) before now faults_before faults_now
failed_some said o q before now faults_before faults_now is h =
    subst (λ (p : Option Question). HaveFailed said (option_to_list p) before now faults_before faults_now) (sym is)
    (failed_one said q before now faults_before faults_now h)

-- a panel that is asked a question that may be absent, and is there, has been asked it
pub asked_some : (said : List (Question → Verdict)) (o : Option Question) (q : Question) (before now : List ℕ)
    → o ≡ Some q → MovedBelow Counted (panel_size (verdicts said q)) before now
    → HaveAsked said (option_to_list o) before now
asked_some said o q before now is h =
    subst (λ (p : Option Question). HaveAsked said (option_to_list p) before now) (sym is)
    (asked_one said q before now h)

-- nothing was asked
pub front_none : (said : List (Question → Verdict)) (qs : List Question) (now : List ℕ)
    → HaveAskedPrefix said qs now now
front_none said qs now = record { prefix = []; rest = qs; split = refl; asked = refl }

-- questions that were all asked are a prefix of themselves that was asked
pub front_all : (said : List (Question → Verdict)) (qs : List Question) (before now : List ℕ)
    → HaveAsked said qs before now → HaveAskedPrefix said qs before now
front_all said qs before now h = record { prefix = qs; rest = []; split = sym (append-nil qs); asked = h }

-- some and then others
pub asked_append : (said : List (Question → Verdict)) (qs rs : List Question) (a b c : List ℕ) → HaveAsked said qs a b
    → HaveAsked said rs b c → HaveAsked said (qs ++ rs) a c
asked_append said [] rs a b c p q = subst (λ (x : List ℕ). HaveAsked said rs x c) p q
asked_append said (x ∷ qs) rs a b c p q = (p.0, p.1, asked_append said qs rs p.0 b c p.2 q)

-- all of some questions and a prefix of others are a prefix of both together
pub front_append : (said : List (Question → Verdict)) (qs rs : List Question) (a b c : List ℕ) → HaveAsked said qs a b
    → HaveAskedPrefix said rs b c → HaveAskedPrefix said (qs ++ rs) a c
front_append said qs rs a b c p q =
    record
    { prefix = qs ++ q.prefix; rest = q.rest; split = ap (λ (x : List Question). qs ++ x) q.split ∙ sym (append_assoc qs q.prefix q.rest); asked = asked_append said qs q.prefix a b c p q.asked }

-- a panel that fails among later questions has been asked the earlier ones
pub failed_append : (said : List (Question → Verdict)) (qs rs : List Question) (a b c f g : List ℕ)
    → HaveAsked said qs a b → HaveFailed said rs b c f g → HaveFailed said (qs ++ rs) a c f g
failed_append said qs rs a b c f g p q = record {
  prefix = qs ++ q.prefix;
  question = q.question;
  rest = q.rest;
  split = ap (λ (x : List Question). qs ++ x) q.split ∙ sym (append_assoc qs q.prefix (q.question ∷ q.rest));
  between = q.between;
  asked = asked_append said qs q.prefix a b q.between p q.asked;
  judge = q.judge;
  failed = q.failed;
}

-- a panel that has been asked the first of some questions has been asked the first of more
pub front_more : (said : List (Question → Verdict)) (qs rs : List Question) (a b : List ℕ) → HaveAskedPrefix said qs a b
    → HaveAskedPrefix said (qs ++ rs) a b
front_more said qs rs a b p =
    record
    { prefix = p.prefix; rest = p.rest ++ rs; split = ap (λ (x : List Question). x ++ rs) p.split ∙ append_assoc p.prefix p.rest rs; asked = p.asked }

-- a panel that failed among some questions failed among them and any that would have followed
pub failed_more : (said : List (Question → Verdict)) (qs rs : List Question) (a b f g : List ℕ)
    → HaveFailed said qs a b f g → HaveFailed said (qs ++ rs) a b f g
failed_more said qs rs a b f g p = record {
  prefix = p.prefix;
  question = p.question;
  rest = p.rest ++ rs;
  split = ap (λ (x : List Question). x ++ rs) p.split ∙ append_assoc p.prefix (p.question ∷ p.rest) rs;
  between = p.between;
  asked = p.asked;
  judge = p.judge;
  failed = p.failed;
}

-- ---- where a rule before the verdict fails

-- where a rule of claims fails, there is no question to ask
pub no_question : (r : Reading) (f : Failing) → Some f ≡ first_failing (claim_tests r) → question_in r ≡ None
no_question r f fails = by (question_in r) refl
  where
    by : (o : Option Question) → question_in r ≡ o → o ≡ None
    by None e = refl
    by (Some q) e = absurd (let passes = asked_passes r (ap is_some e) in let wrong = fails ∙ passes in cc (wrong))

-- without a question the counts stay
pub asked_nothing : (said : List (Question → Verdict)) (o : Option Question) (now : List ℕ) → o ≡ None
    → HaveAsked said (option_to_list o) now now
asked_nothing said o now none =
    subst (λ (p : Option Question). HaveAsked said (option_to_list p) now now) (sym none) refl

-- ---- judges that nobody asked

-- counts that stay don't fall
within : (ns : List ℕ) → NoneFell ns ns
within ns i lt = omega arith

-- judges that nobody asked are left as they were, whatever is answered
pub stays : {T E : Type 0} (js : Judges) (r : Result T E) → LeavesJudges js js r
stays {T} {E} js (Ok x) =
    record { same = refl; asked_later = within js.asked; faults_later = within js.faults; ok = refl }
stays {T} {E} js (Err e) =
    record { same = refl; asked_later = within js.asked; faults_later = within js.faults; ok = tt }

-- whatever is answered in the end, where the panel's answer was handled
pub leaves_ok : {T U E F : Type 0} (old new : Judges) (x : T) (r : Result U F)
    → LeavesJudges {T = T} {E = E} old new (Ok x) → LeavesJudges old new r
leaves_ok {T} {U} {E} {F} old new x (Ok y) h =
    record { same = h.same; asked_later = h.asked_later; faults_later = h.faults_later; ok = h.ok }
leaves_ok {T} {U} {E} {F} old new x (Err e) h =
    record { same = h.same; asked_later = h.asked_later; faults_later = h.faults_later; ok = tt }

-- what an error leaves of the judges is the same under another error
pub leaves_err : {T U E F : Type 0} (old new : Judges) (e : E) (f : F) → LeavesJudges {T = T} {E = E} old new (Err e)
    → LeavesJudges {T = U} {E = F} old new (Err f)
leaves_err {T} {U} {E} {F} old new e f h =
    record { same = h.same; asked_later = h.asked_later; faults_later = h.faults_later; ok = tt }
