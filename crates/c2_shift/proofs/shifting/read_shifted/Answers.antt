use Rattle.std.proofs.Common.{◌∙◌, List, sym, ap}
use Rattle.c2_bmff_chunks.specs.Fields.{all_fields}
use Rattle.c2_bmff_chunks.specs.Shifted.{part_with}
use Rattle.c2_bmff_chunks.specs.declared.table.ChunkTable.{ChunkTable}
use Rattle.c2_shift.proofs.ReadBytes.{fills_shifted}
use Rattle.c2_shift.proofs.shifting.read_shifted.Goals as goal

-- the buffer is as it was read
pub put_tables-requires-clause-raw : goal.put_tables-requires-clause-raw
put_tables-requires-clause-raw g c =
    λ file known. c.in_ok-fill_at.ensures.filled file (sym c.in_ok-fill_at.ensures.stays.same_bytes ∙ known)

-- the fields are put over it
pub returns-clause-filled : goal.returns-clause-filled
returns-clause-filled g c =
    fills_shifted c.args.from c.args.by c.args.pos c.args.tables.now (g.S.Source.known c.args.source.now)
    c.fill_at.new.buf c.put_tables.new.bytes c.in_ok-fill_at.ensures.filled
    (λ file known. c.in_ok-put_tables.ensures.put file (c.in_ok-fill_at.ensures.stays.same_bytes ∙ known)
    ∙ ap (λ (ts : List ChunkTable). part_with c.args.from c.args.by c.args.pos file (all_fields ts) c.fill_at.new.buf) c.as_slice.ensures.tables)
