use Rattle.std.proofs.Common.{◌≡◌, ◌+◌, ◌-◌, ◌∙◌, length, take, drop, sym, ap, ap₂, arith}
use Rattle.std.proofs.lemmas.List.{length-drop, length-take-le}
use Rattle.c2_bmff_boxes.specs.Provenance.{first_part}
use Rattle.c2_bmff_rows.specs.Rows.{payload_at}
use Rattle.c2_bmff_boxes.proofs.PartLemmas.{part_same, take_first}
use Rattle.c2_bmff_boxes.proofs.provenance.part_at.Goals as goal

-- what the first 53 bytes of the payload say of the `uuid` box is what its whole payload says
pub returns-clause-part : goal.returns-clause-part
returns-clause-part g c file known =
    let size : length file ≡ g.S.Source.len c.args.source.now = g.met.S.Source.known_len c.args.source.now file known in
    let len = c.args.row.length - c.args.row.header in
    let payload : length (payload_at file c.args.row) ≡ len =
    length-take-le len (drop (c.args.row.start + c.args.row.header) file)
    (omega (arith, length-drop (c.args.row.start + c.args.row.header) file, size, c.requires.inside, c.requires.ordered)) in
    c.part_of.ensures.part
    ∙ ap₂ (first_part c.args.found) (sym payload)
    (c.in_ok-fill_first.ensures.filled file known ∙ ap (λ n. take n (drop (c.args.row.start + c.args.row.header) file)) c.min-count.ensures ∙ take_first 53 len (drop (c.args.row.start + c.args.row.header) file))
    ∙ part_same c.args.found (payload_at file c.args.row)
