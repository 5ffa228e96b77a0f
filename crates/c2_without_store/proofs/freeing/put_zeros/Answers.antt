use Rattle.c2_without_store.proofs.Regions.{zeros_put}
use Rattle.c2_without_store.proofs.freeing.put_zeros.Goals as goal

-- the places between are zero bytes, and the others stay
pub returns : goal.returns
returns c =
    zeros_put c.args.from c.args.start c.args.count c.args.bytes.now c.fill.new.self c.within-first.result
    c.within-end.result c.within-first.ensures c.within-end.ensures (c.fill.ensures.after (λ y h. h))
