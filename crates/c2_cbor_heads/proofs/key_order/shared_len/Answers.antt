use Rattle.std.proofs.Common.{refl, arith}
use Rattle.c2_cbor_heads.proofs.Shared.{shared_on, shares_none}
use Rattle.c2_cbor_heads.proofs.key_order.shared_len.Goals as goal

pub returns-then-rest-len : goal.returns-then-rest-len
returns-then-rest-len c = λ ks s. shares_none ks

pub loop-i-preserved : goal.loop-i-preserved
loop-i-preserved c = λ ks s.
    shared_on ks c.args.bytes.now c.args.lens.now c.loop-i.rest.now c.split_at.result.1.now c.loop-i.i _ c.loop-i.shared
    _ c.split_at.result.0.now
    (omega arith) refl s.lengths c.split_at.ensures.front c.split_at.ensures.back c.agreeing-shared.ensures.most
    c.agreeing-shared.ensures.agree (c.loop-i.invariant ks s)
