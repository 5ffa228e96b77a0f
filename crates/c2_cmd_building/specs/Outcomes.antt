-- What a command that builds comes to: `plan`, `embed` and `sample`.
use Rattle.std.specs.Prelude.{◌≡◌, ℕ, List, ◌++◌}
use Rattle.std.specs.declared.result.Result.{Result}
use Rattle.c2_base.specs.declared.values.Question.{Question}
use Rattle.c2_spec.specs.declared.digest.Alg.{Alg}
use Rattle.c2_spec.specs.declared.panel.Verdict.{Verdict}
use Rattle.c2_build_refusals.specs.declared.error.BuildError.{BuildError}
use Rattle.c2_build_plain.specs.Building.{Built, IsEmbedded, IsPlanned}
use Rattle.c2_sample.specs.Sample.{IsSampled, sample_line}
use Rattle.c2_sample.specs.declared.types.Sampled.{Sampled}
use Rattle.c2_sample.specs.declared.types.Sampled.TheVariants as sampled
use Rattle.c2_cmd_outcome.specs.Outcome.{Outcome, answered, reports}
use Rattle.c2_cmd_written_spec.specs.Builds.{new_file_outcome, range_outcome, refused_build, result_outcome, tbs_outcome}

-- what is reported where `plan` comes to this: the bytes that are to be signed, or what is refused
abbrev pub plan_outcome : Result (List ℕ) BuildError → Outcome
plan_outcome r = result_outcome tbs_outcome r

-- the outcome of `plan` over a media file and a definition file
abbrev pub IsPlanOutcome : (Alg → List ℕ → List ℕ) → (Question → Verdict) → List ℕ → List ℕ → Outcome → Type 0
IsPlanOutcome hash said media definition expected =
    (r : Result (List ℕ) BuildError) × IsPlanned hash said media definition r × (expected ≡ plan_outcome r)

-- the bytes of a new file
abbrev pub file_bytes : Built → List ℕ
file_bytes b = b.file

-- what is reported of it: the range of its store
abbrev pub file_report : Built → Outcome
file_report b = range_outcome b.start b.len

-- what is reported where `embed` comes to this, and the new file: there is none where the build is refused
abbrev pub embed_outcome : Result Built BuildError → Outcome
embed_outcome r = new_file_outcome file_bytes file_report r

-- the outcome of `embed` over a media file, a definition file and a signed message
abbrev pub IsEmbedOutcome : (Alg → List ℕ → List ℕ) → (Question → Verdict) → List ℕ → List ℕ → List ℕ → Outcome → Type 0
IsEmbedOutcome hash said media definition message expected =
    (r : Result Built BuildError) × IsEmbedded hash said media definition message r × (expected ≡ embed_outcome r)

-- what is reported where so many pieces come to this: the line of their files, and that of the check; or what is refused
abbrev pub sample_outcome : ℕ → Sampled → Outcome
sample_outcome n (sampled.Checked lengths found) = reports (answered found).answer (sample_line n lengths ++ (answered found).report)
sample_outcome n (sampled.Refused e) = refused_build e

-- the outcome of `sample` with so many pieces
abbrev pub IsSampleOutcome : (Alg → List ℕ → List ℕ) → (Question → Verdict) → ℕ → Outcome → Type 0
IsSampleOutcome hash said n expected = (s : Sampled) × IsSampled hash said n s × (expected ≡ sample_outcome n s)
