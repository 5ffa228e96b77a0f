-- What `plan-collect` and `embed-collect` come to.
use Rattle.std.specs.Prelude.{◌≡◌, ℕ, List}
use Rattle.std.specs.declared.result.Result.{Result}
use Rattle.c2_base.specs.declared.values.Question.{Question}
use Rattle.c2_spec.specs.declared.digest.Alg.{Alg}
use Rattle.c2_spec.specs.declared.panel.Verdict.{Verdict}
use Rattle.c2_collect_spec.specs.Order.{CollectRefusal}
use Rattle.c2_collect_spec.specs.Outcomes.{IsCollectMade, IsCollectPlanned, NewFile}
use Rattle.c2_build_collect.specs.Errors.{error_of}
use Rattle.c2_cmd_outcome.specs.Outcome.{Outcome}
use Rattle.c2_cmd_written_spec.specs.Builds.{new_file_outcome, range_outcome, result_outcome, tbs_outcome}
use Rattle.c2_cmd_written_spec.specs.Refused.{with_error}

-- what is reported where `plan-collect` comes to this: the bytes that are to be signed, or what is refused
abbrev pub plan_outcome : Result (List ℕ) CollectRefusal → Outcome
plan_outcome r = result_outcome tbs_outcome (with_error error_of r)

-- the outcome of `plan-collect` over a media file, a definition file and another media file
abbrev pub IsPlanCollectOutcome : (Alg → List ℕ → List ℕ) → (Question → Verdict) → List ℕ → List ℕ → List ℕ → Outcome → Type 0
IsPlanCollectOutcome hash said media definition other expected =
    (r : Result (List ℕ) CollectRefusal) × IsCollectPlanned hash said media definition other r × (expected ≡ plan_outcome r)

-- the bytes of a new file
abbrev pub file_bytes : NewFile → List ℕ
file_bytes b = b.file

-- what is reported of it: the range of its store
abbrev pub file_report : NewFile → Outcome
file_report b = range_outcome b.start b.len

-- what is reported where `embed-collect` comes to this, and the new file: there is none where the build is refused
abbrev pub embed_outcome : Result NewFile CollectRefusal → Outcome
embed_outcome r = new_file_outcome file_bytes file_report (with_error error_of r)

-- the outcome of `embed-collect` over a media file, a definition file, a signed message and another media file
abbrev pub IsEmbedCollectOutcome : (Alg → List ℕ → List ℕ) → (Question → Verdict) → List ℕ → List ℕ → List ℕ → List ℕ → Outcome → Type 0
IsEmbedCollectOutcome hash said media definition message other expected =
    (r : Result NewFile CollectRefusal) × IsCollectMade hash said media definition message other r × (expected ≡ embed_outcome r)
