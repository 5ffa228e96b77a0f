use Rattle.std.proofs.Common.{subst, sym}
use Rattle.std.specs.Prelude.{All}
use Rattle.c2_bmff_rows.specs.Rows.{IsBoxWithin}
use Rattle.c2_bmff_rows.proofs.Lists.{rows_within}
use Rattle.c2_bmff_boxes.proofs.provenance.locate.Goals as goal

-- root boxes that end in the source are rows inside it
pub search-requires : goal.search-requires
search-requires g c =
    record
    { inside = rows_within (g.S.Source.len c.args.source.now) _ (subst (All (IsBoxWithin (g.S.Source.len c.args.source.now))) (sym c.as_slice.ensures.boxes) c.requires.inside) c.as_slice.ensures.headers }
