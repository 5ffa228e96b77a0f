-- A sample of so many pieces has an outcome, and asks a list of questions.
use Rattle.std.proofs.Common.{refl, ℕ, List, [], length}
use Rattle.std.specs.declared.result.Result.{Result}
use Rattle.std.specs.declared.result.Result.TheVariants.{Ok, Err}
use Rattle.c2_base.specs.declared.values.Question.{Question}
use Rattle.c2_spec.specs.Located.{here}
use Rattle.c2_spec.specs.declared.digest.Alg.{Alg}
use Rattle.c2_spec.specs.declared.panel.Verdict.{Verdict}
use Rattle.c2_rules.specs.CheckList.{check_asks, store_answer}
use Rattle.c2_new_file_spec.specs.Fresh.{GivesDigests}
use Rattle.c2_build_plain.specs.Building.{Built}
use Rattle.c2_build_plain.proofs.TheLaws.{a_new_file_meets_the_rules, each_build_comes_to_something_embedding}
use Rattle.c2_build_refusals.specs.declared.error.BuildError.{BuildError}
use Rattle.c2_sample.specs.Sample.{EachSample, EachSampleAsks, IsSampleBuilt, IsSampled, SampleAsks, lengths_of, no_judges, sample_definition, sample_media, sample_message}
use Rattle.c2_sample.specs.declared.types.Sampled.{Sampled}
use Rattle.c2_sample.specs.declared.types.Sampled.TheVariants.{Checked, Refused}
use Rattle.c2_sample.proofs.MadeBytes.{media_bytes, message_bytes}
use Rattle.c2_sample.proofs.WorkedDefinition.{texts_in}

-- a build comes to something
some_build : (hash : Alg → List ℕ → List ℕ) (said : Question → Verdict) (n : ℕ) → GivesDigests hash
    → (r : Result Built BuildError) → IsSampleBuilt hash n r → (s : Sampled) × IsSampled hash said n s
some_build hash said n gives (Ok b) is =
    let new =
    a_new_file_meets_the_rules hash no_judges (sample_media n) sample_definition sample_message b gives texts_in is in
    let found = new.meets.opened in
    let told = store_answer hash said (length b.file) b.start b.len new.meets.reading in (
      Checked (lengths_of (length (sample_media n)) b.file found.0) told,
      (
        Ok b,
        is,
        record {
          located = found.0;
          is_located = found.1;
          answer = told;
          is_answer = (here b.start b.len new.store, new.meets.opened, (new.meets.reading, new.meets.reads, refl));
          is = refl;
        },
      ),
    )
some_build hash said n gives (Err e) is = (Refused e, (Err e, is, refl))

-- a sample of so many pieces has an outcome
pub each_sample : EachSample
each_sample hash said n gives =
    let r =
    each_build_comes_to_something_embedding hash no_judges (sample_media n) sample_definition sample_message
    (media_bytes n) message_bytes in
    some_build hash said n gives r.0 r.1

-- a build asks a list of questions
some_asks : (hash : Alg → List ℕ → List ℕ) (said : Question → Verdict) (n : ℕ) → GivesDigests hash
    → (r : Result Built BuildError) → IsSampleBuilt hash n r → (qs : List Question) × SampleAsks hash said n qs
some_asks hash said n gives (Ok b) is =
    let new =
    a_new_file_meets_the_rules hash no_judges (sample_media n) sample_definition sample_message b gives texts_in is in
    let rs = new.meets.reading.readings in
    (check_asks hash said rs, (Ok b, is, (here b.start b.len new.store, new.meets.opened, (rs, new.meets.reads.reads.each, refl))))
some_asks hash said n gives (Err e) is = ([], (Err e, is, refl))

-- a sample of so many pieces asks a list of questions
pub each_sample_asks : EachSampleAsks
each_sample_asks hash said n gives =
    let r =
    each_build_comes_to_something_embedding hash no_judges (sample_media n) sample_definition sample_message
    (media_bytes n) message_bytes in
    some_asks hash said n gives r.0 r.1
