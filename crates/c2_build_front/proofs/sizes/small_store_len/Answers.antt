use Rattle.std.proofs.Common.{arith}
use Rattle.c2_build_front.proofs.First.{told_first}
use Rattle.c2_build_front.specs.Steps.{store_size}
use Rattle.c2_build_front.proofs.sizes.small_store_len.Goals as goal

-- the store is too large
pub returns-then-len-gt-MAX_STORE_LEN-clause-refused : goal.returns-then-len-gt-MAX_STORE_LEN-clause-refused
returns-then-len-gt-MAX_STORE_LEN-clause-refused c =
    λ fits file boxes. told_first (store_size c.args.definition.now) c.in-Ok.len file boxes c.in-Ok.ensures (omega (arith, c.if-len-gt-MAX_STORE_LEN.true)) fits
