use Rattle.std.proofs.Common.{arith}
use Rattle.c2_cbor_heads.proofs.Appended.{grown, simple_long}
use Rattle.c2_cbor_heads.proofs.preferred.push_simple.Goals as goal

pub returns : goal.returns
returns c = grown _ _ _ _ _ (simple_long c.args.a (omega arith)) c.push_after.ensures
