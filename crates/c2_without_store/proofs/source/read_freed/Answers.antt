use Rattle.c2_without_store.proofs.Frees.{freed_read}
use Rattle.c2_without_store.proofs.source.read_freed.Goals as goal

-- the box is freed in what was read
pub returns-clause-bytes : goal.returns-clause-bytes
returns-clause-bytes g c =
    freed_read (g.S.Source.known c.args.source.now) c.args.row c.args.pos c.in_ok-count.count
    (g.S.Source.len c.args.source.now) c.args.buf.now c.read_at.new.buf c.put_freed.new.bytes
    (g.met.S.Source.known_len c.args.source.now)
    c.in_ok-count.ensures.count.in_source c.in_ok-count.ensures.bytes c.put_freed.ensures
