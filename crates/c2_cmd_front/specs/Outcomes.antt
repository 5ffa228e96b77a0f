-- What `plan-front` and `embed-front` come to.
use Rattle.std.specs.Prelude.{◌≡◌, ℕ, List}
use Rattle.std.specs.declared.result.Result.{Result}
use Rattle.c2_spec.specs.declared.digest.Alg.{Alg}
use Rattle.c2_new_front_spec.specs.Order.{FrontRefusal}
use Rattle.c2_new_front_spec.specs.Outcomes.{IsFrontMade, IsFrontPlanned, NewFile}
use Rattle.c2_build_front.specs.Errors.{error_of}
use Rattle.c2_cmd_outcome.specs.Outcome.{Outcome}
use Rattle.c2_cmd_written_spec.specs.Builds.{new_file_outcome, range_outcome, result_outcome, tbs_outcome}
use Rattle.c2_cmd_written_spec.specs.Refused.{with_error}

-- what is reported where `plan-front` comes to this: the bytes that are to be signed, or what is refused
abbrev pub plan_outcome : Result (List ℕ) FrontRefusal → Outcome
plan_outcome r = result_outcome tbs_outcome (with_error error_of r)

-- the outcome of `plan-front` over a media file and a definition file
abbrev pub IsPlanFrontOutcome : (Alg → List ℕ → List ℕ) → List ℕ → List ℕ → Outcome → Type 0
IsPlanFrontOutcome hash media definition expected =
    (r : Result (List ℕ) FrontRefusal) × IsFrontPlanned hash media definition r × (expected ≡ plan_outcome r)

-- the bytes of a new file
abbrev pub file_bytes : NewFile → List ℕ
file_bytes b = b.file

-- what is reported of it: the range of its store
abbrev pub file_report : NewFile → Outcome
file_report b = range_outcome b.start b.len

-- what is reported where `embed-front` comes to this, and the new file: there is none where the build is refused
abbrev pub embed_outcome : Result NewFile FrontRefusal → Outcome
embed_outcome r = new_file_outcome file_bytes file_report (with_error error_of r)

-- the outcome of `embed-front` over a media file, a definition file and a signed message
abbrev pub IsEmbedFrontOutcome : (Alg → List ℕ → List ℕ) → List ℕ → List ℕ → List ℕ → Outcome → Type 0
IsEmbedFrontOutcome hash media definition message expected =
    (r : Result NewFile FrontRefusal) × IsFrontMade hash media definition message r × (expected ≡ embed_outcome r)
