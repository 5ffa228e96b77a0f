-- The laws of this crate, for the proofs of the crates above it.
use Rattle.c2_cmd_extract.specs.Outcomes.{IsExtractOutcome, extract_file, extract_report}
use Rattle.c2_cmd_outcome.specs.Outcome.{IsOneOutcome, Outcome}
use Rattle.c2_cmd_written_spec.specs.Written.{with_file}
use Rattle.c2_container.proofs.TheLaws.{each_media_file_is_located_located, each_media_file_is_located_once}
use Rattle.c2_sidecar.specs.Extracting.{extracted_of}
use Rattle.c2_spec.specs.Located.{Located}
use Rattle.std.proofs.Common.{ap, refl, sym, ◌∙◌}
use Rattle.std.specs.Prelude.{All, List, ℕ, ◌<◌, ◌^◌}

-- `extract` comes to one outcome at most for each file, and to one where the file is bytes
pub an_extract_comes_to_one_outcome_each : (file : List ℕ) → All (λ b. b < 2 ^ 8) file
    → (expected : Outcome) × IsExtractOutcome file expected
an_extract_comes_to_one_outcome_each = λ file held.
    let l = each_media_file_is_located_located file held in
    (with_file (extract_file l.0) (extract_report (extracted_of l.0)), (l.0, l.1, refl))

-- `extract` comes to one outcome at most for each file, and to one where the file is bytes
pub an_extract_comes_to_one_outcome_once : (file : List ℕ) → IsOneOutcome (IsExtractOutcome file)
an_extract_comes_to_one_outcome_once = λ file x y h k.
    h.2 ∙ ap (λ (l : Located). with_file (extract_file l) (extract_report (extracted_of l)))
    (each_media_file_is_located_once file h.0 k.0 h.1 k.1) ∙ sym k.2
