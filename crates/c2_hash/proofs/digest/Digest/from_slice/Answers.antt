use Rattle.std.proofs.Common.{ℕ, List, ◌++◌, drop, length, replicate, subst, sym}
use Rattle.c2_hash.specs.Padded.{IsPadded}
use Rattle.c2_hash.proofs.Padding.{copied}
use Rattle.c2_hash.proofs.digest.Digest.from_slice.Goals as goal

pub invariant_of-result : goal.invariant_of-result
invariant_of-result c =
    subst (λ (z : List ℕ). IsPadded (z ++ drop (length c.args.bytes.now) (replicate 64 0)) (length c.args.bytes.now))
    (sym c.copy_from_slice.ensures.after) (copied c.args.bytes.now c.requires)
