-- What is built in memory, by what the build answers; and what is asked of it.
use Rattle.std.proofs.Common.{◌≡◌, ◌∙◌, refl, sym, ap, subst, ℕ, Bool, true, List, [], ◌++◌, length, map, Option, Some, true≢false}
use Rattle.std.specs.Prelude.{IfOk}
use Rattle.std.specs.declared.result.Result.{Result}
use Rattle.std.specs.declared.result.Result.TheVariants.{Ok, Err}
use Rattle.c2_base.specs.Sink.{Appends}
use Rattle.c2_base.specs.declared.outside.NoMemory.{NoMemory as OutOfMemory}
use Rattle.c2_base.specs.declared.values.Question.{Question}
use Rattle.c2_spec.specs.declared.digest.Alg.{Alg}
use Rattle.c2_spec.specs.declared.panel.Verdict.{Verdict}
use Rattle.c2_spec.specs.Judges.Panel.{panel_says}
use Rattle.c2_rules.specs.Validated.{CheckAsks}
use Rattle.c2_build_refusals.specs.Kinds.{ErrorKind, KindSays, WithoutFault, front_refusal, judge_fault, kind_of, message_refusal, no_memory, older_refusal, other_refusal, read_fault, refusal, write_fault}
use Rattle.c2_build_refusals.specs.declared.error.BuildError.{BuildError}
use Rattle.c2_build_refusals.specs.declared.types.Embedded.{Embedded}
use Rattle.c2_build_plain.specs.Answers.{EmbedsFile, Writes, file_of}
use Rattle.c2_build_plain.specs.Building.{Built, IsEmbedded}
use Rattle.c2_build_plain.proofs.TheLaws.{a_build_comes_to_one_thing_embedding}
use Rattle.c2_sample.specs.Sample.{BuildAsks, IsFileSampled, IsNewFile, IsSampled, SampleAsks, is_refusal, no_judges, sample_definition, sample_media, sample_message}
use Rattle.c2_sample.specs.declared.building.NewFile.{NewFile}
use Rattle.c2_sample.specs.declared.building.NewFile.TheVariants as new
use Rattle.c2_sample.specs.declared.types.Sampled.{Sampled}
use Rattle.c2_sample.specs.declared.types.Sampled.TheVariants.{Refused}

-- ---- the file

-- what the files of a sample come to over this media
abbrev pub IsMade : (Alg → List ℕ → List ℕ) → List ℕ → Result Built BuildError → Type 0
IsMade hash media r = IsEmbedded hash no_judges media sample_definition sample_message r

-- where nobody judges, what is built is that by the word of no judge
pub by_nobody : {T K : Type 0} {judges : List T} (says : T → Question → Verdict) (written : K → Option (List ℕ)) (spare : K → Option ℕ) (finished : K → Bool) (hash : Alg → List ℕ → List ℕ) (media : List ℕ) (old now : K) (r : Result Embedded BuildError)
    → judges ≡ []
    → EmbedsFile written spare finished hash (panel_says (map says judges)) media sample_definition sample_message old now r
    → EmbedsFile written spare finished hash no_judges media sample_definition sample_message old now r
by_nobody {T} says written spare finished hash media old now r none h =
    subst
    (λ (js : List T). EmbedsFile written spare finished hash (panel_says (map says js)) media sample_definition sample_message old now r)
    none h

-- a sink that was empty holds the new file
pub new_file : (hash : Alg → List ℕ → List ℕ) (media before now text bytes file : List ℕ) (b : Built)
    → IsMade hash media (Ok b) → Writes (IsMade hash media) text → Appends (Some before) (Some now) text
    → before ≡ [] → bytes ≡ now → file ≡ bytes → IsNewFile hash media (new.Built file)
new_file hash media before now text bytes file b is writes whole empty read copied =
    let same : now ≡ before ++ text = cc (whole) in
    let own : text ≡ b.file =
    writes.2
    ∙ ap file_of
    (a_build_comes_to_one_thing_embedding hash no_judges media sample_definition sample_message writes.0 (Ok b)
    writes.1 is) in
    (b, is, copied ∙ read ∙ same ∙ ap (λ (front : List ℕ). front ++ text) empty ∙ own)

-- what is refused is what the inputs come to
kind_comes : (k : ErrorKind) (claim : Type 0) → is_refusal k ≡ true → KindSays k claim → claim
kind_comes refusal claim is h = h
kind_comes message_refusal claim is h = h
kind_comes front_refusal claim is h = h
kind_comes older_refusal claim is h = h
kind_comes other_refusal claim is h = h
kind_comes read_fault claim is h = absurd (true≢false (sym is))
kind_comes judge_fault claim is h = absurd (true≢false (sym is))
kind_comes write_fault claim is h = absurd (true≢false (sym is))
kind_comes no_memory claim is h = absurd (true≢false (sym is))

-- the answer to an error that refuses is what the inputs come to
pub refused_file : (hash : Alg → List ℕ → List ℕ) (media : List ℕ) (e : BuildError) (r : Result NewFile OutOfMemory)
    → WithoutFault e (IsMade hash media (Err e))
    → IfOk r (λ file. (is_refusal (kind_of e) ≡ true) × (file ≡ new.Refused e)) → IfOk r (IsNewFile hash media)
refused_file hash media e (Ok file) h is =
    subst (IsNewFile hash media) (sym is.1) (kind_comes (kind_of e) (IsMade hash media (Err e)) is.0 h)
refused_file hash media e (Err out) h is = tt

-- ---- what it comes to

-- a file that is built comes to what its check answers
pub built_sampled :
    (hash : Alg → List ℕ → List ℕ) (said : Question → Verdict) (n : ℕ) (media file : List ℕ) (len : ℕ) (s : Sampled)
    → media ≡ sample_media n → len ≡ length media → IsNewFile hash media (new.Built file)
    → IsFileSampled hash said len file s → IsSampled hash said n s
built_sampled hash said n media file len s is counted built found = (
  Ok built.0,
  subst (λ (m : List ℕ). IsEmbedded hash no_judges m sample_definition sample_message (Ok built.0)) is built.1,
  subst (λ (k : ℕ). IsFileSampled hash said k built.0.file s) (counted ∙ ap length is)
      (subst (λ (f : List ℕ). IsFileSampled hash said len f s) built.2 found),
)

-- where nothing is built, a sample comes to what is refused
pub refused_sampled :
    (hash : Alg → List ℕ → List ℕ) (said : Question → Verdict) (n : ℕ) (media : List ℕ) (e : BuildError)
    → media ≡ sample_media n → IsNewFile hash media (new.Refused e) → IsSampled hash said n (Refused e)
refused_sampled hash said n media e is refused =
    (Err e, subst (λ (m : List ℕ). IsEmbedded hash no_judges m sample_definition sample_message (Err e)) is refused, refl)

-- ---- what is asked

-- the questions of so many pieces are those of the file that is built of them
pub built_asks :
    (hash : Alg → List ℕ → List ℕ) (said : Question → Verdict) (n : ℕ) (media file : List ℕ) (qs : List Question)
    → media ≡ sample_media n → IsNewFile hash media (new.Built file) → SampleAsks hash said n qs
    → CheckAsks hash said file qs
built_asks hash said n media file qs is built asks =
    let made =
    subst (λ (m : List ℕ). IsEmbedded hash no_judges m sample_definition sample_message (Ok built.0)) is built.1 in
    let same =
    a_build_comes_to_one_thing_embedding hash no_judges (sample_media n) sample_definition sample_message asks.0
    (Ok built.0) asks.1 made in
    subst (λ (f : List ℕ). CheckAsks hash said f qs) (sym built.2)
    (subst (λ (r : Result Built BuildError). BuildAsks hash said r qs) same asks.2)

-- a sample of so many pieces asks no questions where the build is refused
pub refused_asks :
    (hash : Alg → List ℕ → List ℕ) (said : Question → Verdict) (n : ℕ) (media : List ℕ) (e : BuildError)
    (qs : List Question)
    → media ≡ sample_media n → IsNewFile hash media (new.Refused e) → SampleAsks hash said n qs → qs ≡ []
refused_asks hash said n media e qs is refused asks =
    let made =
    subst (λ (m : List ℕ). IsEmbedded hash no_judges m sample_definition sample_message (Err e)) is refused in
    let same =
    a_build_comes_to_one_thing_embedding hash no_judges (sample_media n) sample_definition sample_message asks.0 (Err e)
    asks.1 made in
    subst (λ (r : Result Built BuildError). BuildAsks hash said r qs) same asks.2
