-- A sample of so many pieces has one outcome, and asks one list of questions.
use Rattle.c2_validate.proofs.TheLaws.{one_check_answer, one_check_asks}
use Rattle.c2_build_plain.proofs.TheLaws.{a_build_comes_to_one_thing_embedding}
use Rattle.c2_container.proofs.TheLaws.{each_media_file_is_located_once}
use Rattle.std.proofs.Common.{◌≡◌, ◌∙◌, sym, ap, ap₂, subst, ℕ, List, length}
use Rattle.std.specs.declared.result.Result.{Result}
use Rattle.std.specs.declared.result.Result.TheVariants.{Ok, Err}
use Rattle.c2_base.specs.declared.values.Question.{Question}
use Rattle.c2_spec.specs.declared.digest.Alg.{Alg}
use Rattle.c2_spec.specs.declared.panel.Verdict.{Verdict}
use Rattle.c2_build_plain.specs.Building.{Built}
use Rattle.c2_build_refusals.specs.declared.error.BuildError.{BuildError}
use Rattle.c2_sample.specs.Sample.{BuildAsks, IsBuildSampled, IsFileSampled, OneSample, OneSampleAsks, lengths_of, no_judges, sample_definition, sample_media, sample_message}
use Rattle.c2_sample.specs.declared.types.Sampled.{Sampled}
use Rattle.c2_sample.specs.declared.types.Sampled.TheVariants.{Checked}

-- a new file comes to one thing
one_file : (hash : Alg → List ℕ → List ℕ) (said : Question → Verdict) (media : ℕ) (file : List ℕ) (s t : Sampled)
    → IsFileSampled hash said media file s → IsFileSampled hash said media file t → s ≡ t
one_file hash said media file s t h k =
    h.is
    ∙ ap₂ Checked
    (ap (lengths_of media file) (each_media_file_is_located_once file h.located k.located h.is_located k.is_located))
    (one_check_answer hash said file h.answer k.answer h.is_answer k.is_answer)
    ∙ sym k.is

-- a build has one outcome
one_build :
    (hash : Alg → List ℕ → List ℕ) (said : Question → Verdict) (media : ℕ) (r : Result Built BuildError) (s t : Sampled)
    → IsBuildSampled hash said media r s → IsBuildSampled hash said media r t → s ≡ t
one_build hash said media (Ok b) s t h k = one_file hash said media b.file s t h k
one_build hash said media (Err e) s t h k = h ∙ sym k

-- a sample of so many pieces has one outcome
pub one_sample : OneSample
one_sample hash said n s t h k =
    let same =
    a_build_comes_to_one_thing_embedding hash no_judges (sample_media n) sample_definition sample_message h.0 k.0
    h.1 k.1 in
    one_build hash said (length (sample_media n)) k.0 s t
    (subst (λ (r : Result Built BuildError). IsBuildSampled hash said (length (sample_media n)) r s) same h.2) k.2

-- a build asks one list of questions
one_build_asks :
    (hash : Alg → List ℕ → List ℕ) (said : Question → Verdict) (r : Result Built BuildError) (ps qs : List Question)
    → BuildAsks hash said r ps → BuildAsks hash said r qs → ps ≡ qs
one_build_asks hash said (Ok b) ps qs h k = one_check_asks hash said b.file ps qs h k
one_build_asks hash said (Err e) ps qs h k = h ∙ sym k

-- a sample of so many pieces asks one list of questions
pub one_sample_asks : OneSampleAsks
one_sample_asks hash said n ps qs h k =
    let same =
    a_build_comes_to_one_thing_embedding hash no_judges (sample_media n) sample_definition sample_message h.0 k.0
    h.1 k.1 in
    one_build_asks hash said k.0 ps qs (subst (λ (r : Result Built BuildError). BuildAsks hash said r ps) same h.2) k.2
