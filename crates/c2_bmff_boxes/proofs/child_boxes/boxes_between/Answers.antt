use Rattle.std.proofs.Common.{◌≡◌, length, Some, None, arith}
use Rattle.c2_lemmas.proofs.Bytes.{are_bytes}
use Rattle.c2_bmff_boxes.specs.Roots.{FillSource}
use Rattle.c2_bmff_boxes.proofs.ChildLemmas.{list_is}
use Rattle.c2_bmff_boxes.proofs.Filling.{fill_headed}
use Rattle.c2_bmff_boxes.proofs.child_boxes.boxes_between.Goals as goal

-- rows that fill a part of a source have headers, and end in it
pub invariant_of-result : goal.invariant_of-result
invariant_of-result g c =
    let fill : FillSource c.args.end c.args.start c.in-Ok-Some.rows.items = rw c.in-Ok-Some.field-0-is at c.in-Ok-Some.ensures.fill in (
      fill_headed c.args.end c.args.start c.in-Ok-Some.rows.items fill,
      record { low = c.args.start; size = c.args.end; fill = fill; small = omega (arith, c.requires.inside, g.met.S.Source.fits c.args.source.now) },
    )

-- the rows are those of the list of boxes
pub returns-in-Ok-Some-clause-list : goal.returns-in-Ok-Some-clause-list
returns-in-Ok-Some-clause-list g c file known =
    let size : length file ≡ g.S.Source.len c.args.source.now = g.met.S.Source.known_len c.args.source.now file known in
    list_is file c.args.start c.args.end (Some c.in-Ok-Some.rows.items) (are_bytes file (g.met.S.Source.known_bytes c.args.source.now file known)) (omega (arith, size, g.met.S.Source.fits c.args.source.now))
    c.requires.ordered (omega (arith, size, c.requires.inside)) (rw c.in-Ok-Some.field-0-is at (c.in-Ok-Some.ensures.list file known))

-- and without rows there is no list
pub returns-in-Ok-None-clause-list : goal.returns-in-Ok-None-clause-list
returns-in-Ok-None-clause-list g c file known =
    let size : length file ≡ g.S.Source.len c.args.source.now = g.met.S.Source.known_len c.args.source.now file known in
    list_is file c.args.start c.args.end None (are_bytes file (g.met.S.Source.known_bytes c.args.source.now file known))
    (omega (arith, size, g.met.S.Source.fits c.args.source.now))
    c.requires.ordered (omega (arith, size, c.requires.inside)) (rw c.in-Ok-None.field-0-is at (c.in-Ok-None.ensures.list file known))
