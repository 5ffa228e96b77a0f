-- Files of bytes have checks.
use Rattle.c2_opening.proofs.TheLaws.{one_opening_file}
use Rattle.c2_validate.proofs.TheLaws.{each_file_has_a_check_answer}
use Rattle.std.proofs.Common.{ℕ, ◌<◌, ◌^◌, List}
use Rattle.std.specs.Prelude.{All}
use Rattle.c2_base.specs.declared.values.Question.{Question}
use Rattle.c2_spec.specs.declared.digest.Alg.{Alg}
use Rattle.c2_spec.specs.declared.panel.Verdict.{Verdict}
use Rattle.c2_collect_spec.specs.Outcomes.{HasCheck}

-- each file of bytes has a check
pub has_check :
    (hash : Alg → List ℕ → List ℕ) (said : Question → Verdict) (file : List ℕ) → All (λ b. b < 2 ^ 8) file
    → HasCheck hash said file
has_check hash said file bytes =
    let a = each_file_has_a_check_answer hash said file bytes in
    record { once = one_opening_file file; answer = a.0; is = a.1 }
