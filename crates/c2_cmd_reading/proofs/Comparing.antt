-- What `compare` reports, by what two files come to.
use Rattle.std.proofs.Common.{◌≡◌, refl, sym, ◌∙◌, ap, subst, ℕ, List, [], ◌++◌, append-nil, Option}
use Rattle.std.specs.Prelude.{IfOk}
use Rattle.std.specs.declared.result.Result.{Result}
use Rattle.std.specs.declared.result.Result.TheVariants.{Ok, Err}
use Rattle.c2_base.specs.Sink.{HasWrittenPrefix}
use Rattle.c2_base.specs.declared.values.Question.{Question}
use Rattle.c2_spec.specs.declared.digest.Alg.{Alg}
use Rattle.c2_spec.specs.declared.panel.Verdict.{Verdict}
use Rattle.c2_compare_spec.specs.Comparison.{IsComparison}
use Rattle.c2_compare_spec.specs.declared.compared.Compared.{Compared}
use Rattle.c2_compare_spec.specs.declared.compared.Compared.TheVariants as compared
use Rattle.c2_compare_spec.specs.declared.compared.Side.TheVariants.{First, Second}
use Rattle.c2_compare.specs.Comparing.{IsCompared}
use Rattle.c2_compare_evidence.specs.declared.error.CompareError.{CompareError}
use Rattle.c2_texts.specs.Texts.{different_line, not_accepted_line, same_line}
use Rattle.c2_cmd_outcome.specs.Outcome.{Outcome, reports}
use Rattle.c2_cmd_outcome.specs.Reply.{Begins, StandsFor, outcome_of}
use Rattle.c2_cmd_outcome.specs.declared.reply.Fault.{Fault}
use Rattle.c2_cmd_outcome.specs.declared.reply.Reply.{Reply}
use Rattle.c2_cmd_outcome.specs.declared.types.Answer.TheVariants as answer
use Rattle.c2_cmd_outcome.proofs.Replying.{prefix_whole}
use Rattle.c2_cmd_reading.specs.Outcomes.{IsCompareOutcome, compare_outcome}
use Rattle.c2_cmd_reading.proofs.OneOutcome.{one_compared}
use Rattle.c2_base.proofs.Written.{prefix_before}

-- ---- the report

-- an outcome behind a text that was written before
abbrev behind : List ℕ → Outcome → Outcome
behind text o = reports o.answer (text ++ o.report)

-- a reply that is an outcome behind a text stands for it
stands_behind : (e : Outcome) (text : List ℕ) (reply : Reply) → e ≡ behind text (outcome_of reply)
    → StandsFor e text reply
stands_behind e text reply is =
    record { answer = ap (λ (o : Outcome). o.answer) is; report = ap (λ (o : Outcome). o.report) is }

-- the text of evidence, and what is said behind it, are what is reported
joins :
    (hash : Alg → List ℕ → List ℕ) (said : Question → Verdict) (first second : List ℕ) (what : Compared) (text : List ℕ)
    → IsComparison hash said first second what text → behind text (compare_outcome what []) ≡ compare_outcome what text
joins hash said first second (compared.NotAccepted First a) text is =
    ap (λ (t : List ℕ). behind t (reports answer.NotAccepted (not_accepted_line First a))) is.1
joins hash said first second (compared.NotAccepted Second a) text is =
    ap (λ (t : List ℕ). behind t (reports answer.NotAccepted (not_accepted_line Second a))) is.1
joins hash said first second compared.DifferentClaims text is =
    ap (λ (t : List ℕ). behind t (reports answer.DifferentClaims different_line)) is.1
joins hash said first second (compared.Evidence kind) text is = ap (reports answer.Evidence) (append-nil text)
joins hash said first second (compared.Same summary) text is =
    ap (λ (t : List ℕ). behind t (reports answer.Done (same_line summary))) is.1

-- a prefix of the text of evidence is one of what is reported
begun :
    (hash : Alg → List ℕ → List ℕ) (said : Question → Verdict) (first second : List ℕ) (what : Compared) (text : List ℕ)
    (old new : Option (List ℕ)) (expected : Outcome)
    → IsComparison hash said first second what text → expected ≡ compare_outcome what text
    → ((rest : List ℕ) → HasWrittenPrefix old new (text ++ rest)) → HasWrittenPrefix old new expected.report
begun hash said first second what text old new expected is same h =
    subst (λ (o : Outcome). HasWrittenPrefix old new o.report) (joins hash said first second what text is ∙ sym same)
    (h (compare_outcome what []).report)

-- a comparison that fails has written a prefix of what is reported
pub fault_begins :
    (hash : Alg → List ℕ → List ℕ) (said : Question → Verdict) (first second : List ℕ) (old new : Option (List ℕ))
    (e : CompareError) (f : Fault)
    → IsCompared hash said first second old new (Err e)
    → Begins (IsCompareOutcome hash said first second) old new (Err f)
fault_begins hash said first second old new e f h expected k =
    begun hash said first second k.0 k.1 old new expected k.2 k.3
    (λ rest. prefix_before old new k.1 rest (h.gives k.0 k.1 k.2))

-- the reply behind what was written is what two files come to
pub reply_begins :
    (hash : Alg → List ℕ → List ℕ) (said : Question → Verdict) (first second : List ℕ) (old new : Option (List ℕ))
    (what : Compared) (r : Result Reply Fault)
    → IsCompared hash said first second old new (Ok what)
    → IfOk r (λ reply. outcome_of reply ≡ compare_outcome what [])
    → Begins (IsCompareOutcome hash said first second) old new r
reply_begins hash said first second old new what (Ok reply) h out =
    let text = h.is.0 in
    let same : behind text (outcome_of reply) ≡ compare_outcome what text =
    ap (behind text) out ∙ joins hash said first second what text h.is.1 in
    record {
      before = text;
      written = (h.gives what text h.is.1).1;
      stands = λ expected k. stands_behind expected text reply
          (one_compared hash said first second expected (behind text (outcome_of reply)) k (what, text, h.is.1, same));
    }
reply_begins hash said first second old new what (Err e) h out = λ expected k.
    begun hash said first second what h.is.0 old new expected h.is.1
    (one_compared hash said first second expected (compare_outcome what h.is.0) k (what, h.is.0, h.is.1, refl))
    (λ rest. prefix_whole old new h.is.0 rest (h.gives what h.is.0 h.is.1).1)
