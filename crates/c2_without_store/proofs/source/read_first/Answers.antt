use Rattle.c2_without_store.proofs.Cuts.{first_reads}
use Rattle.c2_without_store.proofs.source.read_first.Goals as goal
use Rattle.c2_lemmas.proofs.Results.{both_if_ok}

-- the places behind stay
pub returns-clause-bytes : goal.returns-clause-bytes
returns-clause-bytes g c =
    both_if_ok c.read_at.result _ _ _
    (λ n count reads. first_reads (g.S.Source.known c.args.source.now) c.args.pos n c.args.room c.args.buf.now c.read_at.new.buf count.in_room reads)
    c.read_at.ensures.count c.read_at.ensures.bytes
