use Rattle.std.proofs.Common.{refl, arith}
use Rattle.c2_cbor_spec.proofs.Marks.{mark_cut}
use Rattle.c2_cbor_heads.proofs.key_order.cut_keys.Goals as goal

pub loop-i-preserved : goal.loop-i-preserved
loop-i-preserved c = λ ks s.
    mark_cut c.args.skip c.loop-i.keys.items c.push.new.self.items ks c.args.lens.now c.loop-i.rest.now
    c.split_at.result.1.now c.loop-i.i _ c.front-number.result c.split_at.result.0 _
    (omega arith) refl s.lengths c.in_ok-push.ensures.items c.split_at.ensures.front c.split_at.ensures.back
    c.front-number.ensures c.after.ensures (c.loop-i.invariant ks s)
