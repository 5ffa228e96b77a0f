use Rattle.std.proofs.Common.{◌≡◌, ◌+◌, arith, subst}
use Rattle.std.proofs.lemmas.Result.{IfOk-weaker}
use Rattle.c2_base.specs.Source.{ReadsAt}
use Rattle.c2_without_store.proofs.Cuts.{reads_back, reads_before}
use Rattle.c2_without_store.proofs.source.read_cut.Goals as goal
use Rattle.c2_lemmas.proofs.Results.{both_if_ok}

-- before the range the file is read as it is
pub returns-then-pos-range-clause-bytes : goal.returns-then-pos-range-clause-bytes
returns-then-pos-range-clause-bytes g c =
    both_if_ok c.read_first.result _ _ _
    (λ n count reads. reads_before (g.S.Source.known c.args.source.now) c.args.range c.args.pos n (g.S.Source.len c.args.source.now) c.args.buf.now c.read_first.new.buf (g.met.S.Source.known_len c.args.source.now)
    (omega (arith, count.in_room)) count.in_source (omega arith) reads)
    c.read_first.ensures.count c.read_first.ensures.bytes

-- behind it, as many bytes later
pub returns-clause-bytes : goal.returns-clause-bytes
returns-clause-bytes g c =
    let place : c.in-Some.from ≡ c.args.pos + c.args.range.length = (c.in-Some.ensures {u = tt}).1 in
    IfOk-weaker c.read_at.result _ _
    (λ n reads. reads_back (g.S.Source.known c.args.source.now) c.args.range c.args.pos n c.args.buf.now c.read_at.new.buf (omega arith)
    (subst (λ k. ReadsAt (g.S.Source.known c.args.source.now) k n c.args.buf.now c.read_at.new.buf) place reads))
    c.read_at.ensures.bytes
