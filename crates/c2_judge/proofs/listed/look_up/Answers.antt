use Rattle.std.proofs.Common.{ap, length, sym, ◌∙◌}
use Rattle.c2_spec.specs.Judges.Question.{question_bytes}
use Rattle.c2_spec.specs.declared.digest.Alg.TheVariants.{Sha256}
use Rattle.c2_hash.specs.Sha.{sha-IsDigest}
use Rattle.c2_judge.proofs.listed.look_up.Goals as goal

-- an id is a SHA-256 digest, which has 32 bytes
pub copy_from_slice-requires : goal.copy_from_slice-requires
copy_from_slice-requires c =
    sym
    (ap length (c.as_slice.ensures ∙ c.question_id.ensures) ∙ (sha-IsDigest Sha256 (question_bytes c.args.q.now)).sized)
