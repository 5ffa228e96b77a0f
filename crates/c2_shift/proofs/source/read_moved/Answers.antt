use Rattle.std.proofs.Common.{◌∙◌, List, take, sym, ap}
use Rattle.c2_bmff_chunks.specs.Fields.{all_fields}
use Rattle.c2_bmff_chunks.specs.Shifted.{part_with, shifted}
use Rattle.c2_bmff_chunks.specs.declared.table.ChunkTable.{ChunkTable}
use Rattle.c2_shift.proofs.ReadBytes.{none_read, read_filled, reads_shifted}
use Rattle.c2_shift.proofs.source.read_moved.Goals as goal

-- where nothing was read
pub returns-then-count-eq0-clause-bytes : goal.returns-then-count-eq0-clause-bytes
returns-then-count-eq0-clause-bytes g c =
    none_read (shifted c.args.from c.args.by c.args.tables.now) (g.S.Source.known c.args.source.now) c.args.pos
    c.in_ok-count.count c.args.buf.now c.read_at.new.buf c.if-count-eq0.true c.in_ok-count.ensures.bytes

-- what was read is of the file
pub put_tables-requires-clause-raw : goal.put_tables-requires-clause-raw
put_tables-requires-clause-raw g c = λ file known.
    read_filled c.args.pos c.in_ok-count.count (g.S.Source.len c.args.source.now) (g.S.Source.known c.args.source.now)
    c.args.buf.now c.read_at.new.buf
    (g.met.S.Source.known_len c.args.source.now) c.in_ok-count.ensures.count.in_source c.in_ok-count.ensures.bytes file
    (sym c.in_ok-count.ensures.stays.same_bytes ∙ known)

-- the fields are put over what was read
pub returns-clause-bytes : goal.returns-clause-bytes
returns-clause-bytes g c =
    reads_shifted c.args.from c.args.by c.args.pos c.in_ok-count.count (g.S.Source.len c.args.source.now)
    c.args.tables.now (g.S.Source.known c.args.source.now) c.args.buf.now c.read_at.new.buf c.put_tables.new.bytes
    (g.met.S.Source.known_len c.args.source.now) c.in_ok-count.ensures.count.in_source c.in_ok-count.ensures.bytes
    (λ file known. c.in_ok-put_tables.ensures.put file (c.in_ok-count.ensures.stays.same_bytes ∙ known)
    ∙ ap (λ (ts : List ChunkTable). part_with c.args.from c.args.by c.args.pos file (all_fields ts) (take c.in_ok-count.count c.read_at.new.buf)) c.as_slice.ensures.tables)
