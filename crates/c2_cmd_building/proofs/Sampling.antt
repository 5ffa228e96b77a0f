-- What `sample` replies, by what so many pieces come to.
use Rattle.std.proofs.Common.{◌≡◌, sym, ◌∙◌, ap, subst, ℕ, List}
use Rattle.std.specs.Prelude.{◌≢◌, IfErr, IfOk}
use Rattle.std.specs.declared.result.Result.{Result}
use Rattle.std.specs.declared.result.Result.TheVariants.{Ok, Err}
use Rattle.c2_base.specs.declared.values.Question.{Question}
use Rattle.c2_spec.specs.declared.digest.Alg.{Alg}
use Rattle.c2_spec.specs.declared.panel.Verdict.{Verdict}
use Rattle.c2_sample.specs.Sample.{IsSampled}
use Rattle.c2_sample.specs.declared.types.Sampled.{Sampled}
use Rattle.c2_sample.specs.declared.types.Sampled.TheVariants as sampled
use Rattle.c2_cmd_building.specs.Outcomes.{IsSampleOutcome, sample_outcome}
use Rattle.c2_cmd_outcome.specs.Outcome.{Outcome}
use Rattle.c2_cmd_outcome.specs.Reply.{CausedBy, outcome_of}
use Rattle.c2_cmd_outcome.specs.declared.reply.Fault.{Fault}
use Rattle.c2_cmd_outcome.specs.declared.reply.Fault.TheVariants.{Memory}
use Rattle.c2_cmd_outcome.specs.declared.reply.Reply.{Reply}
use Rattle.c2_cmd_outcome.specs.declared.types.Answer.TheVariants as answer
use Rattle.c2_cmd_outcome.proofs.Replying.{fits_words}

-- what so many pieces come to is the outcome of `sample`
pub sampled_reply : (hash : Alg → List ℕ → List ℕ) (said : Question → Verdict) (n : ℕ) (s : Sampled)
    (r : Result Reply Fault) → IsSampled hash said n s → IfOk r (λ reply. outcome_of reply ≡ sample_outcome n s)
    → IfOk r (λ reply. IsSampleOutcome hash said n (outcome_of reply))
sampled_reply hash said n s (Ok reply) is out = (s, is, out)
sampled_reply hash said n s (Err e) is out = tt

-- which answers no words that fit no command
pub sampled_words : (n : ℕ) (s : Sampled) (r : Result Reply Fault)
    → IfOk r (λ reply. outcome_of reply ≡ sample_outcome n s) → IfOk r (λ reply. reply.answer ≢ answer.Usage)
sampled_words n (sampled.Checked lengths found) (Ok reply) out =
    λ usage. fits_words found (sym (ap (λ (o : Outcome). o.answer) out) ∙ usage)
sampled_words n (sampled.Refused e) (Ok reply) out =
    λ usage. let both = sym (ap (λ (o : Outcome). o.answer) out) ∙ usage in cc (both)
sampled_words n s (Err e) out = tt

-- memory alone may be missing under a reply, whatever the cause of another fault
pub memory_source : (source sink judge : Type 0) (r : Result Reply Fault) → IfErr r (λ e. e ≡ Memory)
    → IfErr r (CausedBy source sink judge)
memory_source source sink judge (Ok reply) h = tt
memory_source source sink judge (Err e) h = subst (CausedBy source sink judge) (sym h) tt
