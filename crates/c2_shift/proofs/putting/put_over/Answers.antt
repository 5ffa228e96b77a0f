use Rattle.std.proofs.Common.{◌≡◌, ◌∙◌, ◌+◌, ◌-◌, take, drop, ap, arith}
use Rattle.c2_shift.proofs.PartLemmas.{piece_put}
use Rattle.c2_shift.proofs.putting.put_over.Goals as goal

-- the piece stands in its places
pub returns : goal.returns
returns c =
    let n : c.within-skipped.result + (c.within-end.result - c.within-first.result) - c.within-skipped.result ≡ c.within-end.result - c.within-first.result = omega arith in
    piece_put c.args.pos c.args.at c.args.piece.now c.args.bytes.now c.copy_from_slice.new.self c.within-first.result
    c.within-end.result c.within-skipped.result c.within-first.ensures c.within-end.ensures c.within-skipped.ensures
    (c.copy_from_slice.ensures.after ∙ ap (λ k. take k (drop c.within-skipped.result c.args.piece.now)) n)
