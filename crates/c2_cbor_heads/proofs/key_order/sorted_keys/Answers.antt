use Rattle.c2_cbor_spec.proofs.Marked.{in_key_order}
use Rattle.c2_cbor_heads.proofs.key_order.sorted_keys.Goals as goal

pub returns : goal.returns
returns c = λ ks s.
    in_key_order c.shared_len-skip.result ks c.args.bytes.now c.args.lens.now c.in_ok-keys.keys.items
    c.sort_unstable.new.self.items s
    c.in_ok-keys.ensures.bytes (c.shared_len-skip.ensures ks s) (c.in_ok-keys.ensures.keys ks s)
    c.sort_unstable.ensures.permutation c.sort_unstable.ensures.sorted
