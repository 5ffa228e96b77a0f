-- The laws of this crate, for the proofs of the crates above it.
use Rattle.c2_cmd_outcome.specs.Outcome.{IsOneOutcome, Outcome}
use Rattle.c2_cmd_strip.specs.Outcomes.{IsStripOutcome, strip_file, strip_report}
use Rattle.c2_cmd_written_spec.specs.Written.{with_file}
use Rattle.c2_strip.proofs.TheLaws.{each_file_is_stripped_each, each_file_is_stripped_once}
use Rattle.c2_strip.specs.declared.error.Stripped.{Stripped}
use Rattle.std.proofs.Common.{ap, refl, sym, ◌∙◌}
use Rattle.std.specs.Prelude.{All, List, ℕ, ◌<◌, ◌^◌}

-- `strip` comes to one outcome at most for each file, and to one where the file is bytes
pub a_strip_comes_to_one_outcome_each : (file : List ℕ) → All (λ b. b < 2 ^ 8) file
    → (expected : Outcome) × IsStripOutcome file expected
a_strip_comes_to_one_outcome_each = λ file held.
    let a = each_file_is_stripped_each file held in
    (with_file (strip_file file a.0) (strip_report a.0), (a.0, a.1, refl))

-- `strip` comes to one outcome at most for each file, and to one where the file is bytes
pub a_strip_comes_to_one_outcome_once : (file : List ℕ) → IsOneOutcome (IsStripOutcome file)
a_strip_comes_to_one_outcome_once = λ file x y h k.
    h.2 ∙ ap (λ (a : Stripped). with_file (strip_file file a) (strip_report a))
    (each_file_is_stripped_once file h.0 k.0 h.1 k.1) ∙ sym k.2
