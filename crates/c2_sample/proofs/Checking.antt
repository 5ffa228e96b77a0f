-- What a new file comes to, by what the check of it answers.
use Rattle.std.proofs.Common.{◌≡◌, ◌∙◌, sym, ap, ap₂, subst, ℕ, List, length}
use Rattle.c2_base.specs.declared.values.Question.{Question}
use Rattle.c2_spec.specs.Container.{IsLocated}
use Rattle.c2_spec.specs.declared.digest.Alg.{Alg}
use Rattle.c2_spec.specs.declared.panel.Verdict.{Verdict}
use Rattle.c2_rules.specs.Validated.{IsAnswer}
use Rattle.c2_rules.specs.declared.answer.Answer.{Answer}
use Rattle.c2_validate.specs.Checked.{validate_heard}
use Rattle.c2_opening.specs.declared.error.ValidateError.{ValidateError}
use Rattle.c2_opening.specs.declared.error.ValidateError.TheVariants.{ReadFault, JudgeFault, NoMemory}
use Rattle.c2_sample.specs.Sample.{IsFileSampled, IsLength, IsSameError, sample_heard}
use Rattle.c2_sample.specs.declared.types.SampleError.{SampleError}
use Rattle.c2_sample.specs.declared.types.Sampled.TheVariants.{Checked}

-- the lengths and the answer are what the file comes to
pub file_sampled :
    (hash : Alg → List ℕ → List ℕ) (said : Question → Verdict) (media len store : ℕ) (file same bytes : List ℕ)
    (a : Answer)
    → same ≡ file → bytes ≡ file → len ≡ length bytes → IsLength same store → IsAnswer hash said file a
    → IsFileSampled hash said media file (Checked (record { media = media; file = len; store = store }) a)
file_sampled hash said media len store file same bytes a copied read counted found answer = record {
  located = found.0;
  is_located = subst (λ (f : List ℕ). IsLocated f found.0) copied found.1;
  answer = a;
  is_answer = answer;
  is = ap₂ (λ (m n : ℕ). Checked (record { media = media; file = m; store = n }) a) (counted ∙ ap length read) found.2;
}

-- an error that is handed up tells the same of the questions
pub same_heard : (e : ValidateError) (f : SampleError) → IsSameError e f → validate_heard e ≡ sample_heard f
same_heard ReadFault f is = absurd is
same_heard JudgeFault f is = ap sample_heard (sym is)
same_heard NoMemory f is = ap sample_heard (sym is)
