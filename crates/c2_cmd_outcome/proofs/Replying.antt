-- Texts that are written one after the other, and the reply behind them; what an answer rules out.
use Rattle.std.proofs.Common.{◌≡◌, sym, ◌∙◌, ap, subst, ℕ, ◌+◌, arith, true, false, cond, Bool, List, [], ◌++◌, length, take, Option}
use Rattle.std.specs.Prelude.{◌≢◌, IfErr, IfOk, Ok, Err}
use Rattle.std.specs.declared.result.Result.{Result}
use Rattle.std.proofs.lemmas.List.{take_all}
use Rattle.std.proofs.Math.Seq.{take-append-add}
use Rattle.c2_base.specs.Sink.{Appends, HasWrittenPrefix, then_written}
use Rattle.c2_rules.specs.Codes.{is_unsupported}
use Rattle.c2_rules.specs.declared.answer.Answer.{Answer as Checked}
use Rattle.c2_rules.specs.declared.answer.Answer.TheVariants as checked
use Rattle.c2_cmd_outcome.specs.Outcome.{Outcome, answered, reports}
use Rattle.c2_cmd_outcome.specs.Reply.{Begins, Completes, IsMediaCause, StandsFor, outcome_of}
use Rattle.c2_cmd_outcome.specs.declared.reply.Fault.{Fault}
use Rattle.c2_cmd_outcome.specs.declared.reply.Fault.TheVariants as fault
use Rattle.c2_cmd_outcome.specs.declared.reply.Reply.{Reply}
use Rattle.c2_cmd_outcome.specs.declared.types.Answer.TheVariants as answer
use Rattle.c2_base.proofs.Written.{appended_twice, prefix_before, then_nothing}

-- ---- texts

-- nothing is a prefix of each text
pub nothing_written : (a : Option (List ℕ)) (all : List ℕ) → HasWrittenPrefix a a all
nothing_written a all = (0, then_nothing a)

-- what was written after a text
pub written_behind : (a b c : Option (List ℕ)) (s t : List ℕ) → Appends a b s → Appends b c t → Appends a c (s ++ t)
written_behind a b c s t e f = f ∙ ap (λ x. then_written x t) e ∙ appended_twice a s t

-- a prefix of a text, after another text
pub prefix_behind : (a b c : Option (List ℕ)) (s t : List ℕ) → Appends a b s → HasWrittenPrefix b c t
    → HasWrittenPrefix a c (s ++ t)
prefix_behind a b c s t e h =
    (length s + h.0, written_behind a b c s (take h.0 t) e h.1 ∙ ap (then_written a) (sym (take-append-add s t h.0)))

-- a whole text is a prefix of the text and whatever follows
pub prefix_whole : (a b : Option (List ℕ)) (s t : List ℕ) → Appends a b s → HasWrittenPrefix a b (s ++ t)
prefix_whole a b s t e =
    prefix_before a b s t (length s, e ∙ ap (then_written a) (sym (take_all (length s) s (omega arith))))

-- ---- replies

-- a reply that is an outcome stands for it
pub stands_same : (e : Outcome) (reply : Reply) → e ≡ outcome_of reply → StandsFor e [] reply
stands_same e reply is =
    record { answer = ap (λ (o : Outcome). o.answer) is; report = ap (λ (o : Outcome). o.report) is }

-- the only outcome, where nothing was written before the reply
pub one_reply : (P : Outcome → Type 0) (w : Option (List ℕ)) (reply : Reply) → ((a b : Outcome) → P a → P b → a ≡ b)
    → P (outcome_of reply) → Completes P w w reply
one_reply P w reply once h =
    record
    { before = []; written = then_nothing w; stands = λ e k. stands_same e reply (once e (outcome_of reply) k h) }

-- a call without a reply that wrote nothing
pub no_reply : (P : Outcome → Type 0) (w : Option (List ℕ)) (e : Fault) → Begins P w w (Err e)
no_reply P w e expected h = nothing_written w expected.report

-- what follows of each value follows of a result's
pub each_ok : {A E : Type 0} (P Q : A → Type 0) (r : Result A E) → ((x : A) → P x → Q x) → IfOk r P → IfOk r Q
each_ok P Q (Ok x) to h = to x h
each_ok P Q (Err e) to h = tt

-- out of memory needs no cause
pub memory_cause : {A : Type 0} (before now : ℕ) (r : Result A Fault) → IfErr r (λ e. e ≡ fault.Memory)
    → IfErr r (IsMediaCause before now)
memory_cause before now (Ok x) h = tt
memory_cause before now (Err e) h = subst (λ (x : Fault). IsMediaCause before now x) (sym h) tt

-- a reply that is done answers no words that fit no command
pub no_usage : (reply : Reply) (text : List ℕ) → outcome_of reply ≡ reports answer.Done text
    → reply.answer ≢ answer.Usage
no_usage reply text out usage = let both = sym (ap (λ (e : Outcome). e.answer) out) ∙ usage in cc (both)

-- a code is that of something unsupported, or not: in neither case are the words wrong
no_words : (b : Bool) → cond b answer.Refused answer.Failing ≡ answer.Usage → ⊥
no_words true e = cc (e)
no_words false e = cc (e)

-- the words aren't wrong by the answer of the check
pub fits_words : (found : Checked) → (answered found).answer ≢ answer.Usage
fits_words (checked.Valid summary) e = cc (e)
fits_words (checked.Failing failing) e = no_words (is_unsupported failing.code) e
fits_words (checked.Refused reason number) e = cc (e)
fits_words checked.NoStore e = cc (e)
