use Rattle.std.proofs.Common.{◌≡◌, ◌∙◌, ◌+◌, length, ap, arith}
use Rattle.c2_bmff_boxes.specs.Children.{rows_len}
use Rattle.c2_bmff_boxes.specs.Roots.{FillSource}
use Rattle.c2_bmff_rows.specs.Children.{or_none}
use Rattle.c2_bmff_boxes.proofs.ChildLemmas.{kids_between}
use Rattle.c2_bmff_boxes.proofs.Filling.{fill_rows, fill_total}
use Rattle.c2_bmff_boxes.proofs.child_boxes.children.Goals as goal

-- the rows of the list in the payload are those of the children
pub returns-in-Ok-Some-clause-rows : goal.returns-in-Ok-Some-clause-rows
returns-in-Ok-Some-clause-rows g c file known =
    let size : length file ≡ g.S.Source.len c.args.source.now = g.met.S.Source.known_len c.args.source.now file known in
    ap or_none (rw c.in-Ok-Some.field-0-is at (c.in-Ok-Some.ensures.list file known)) ∙ kids_between file c.args.parent (omega (arith, size, c.requires.inside.0)) c.requires.inside.1

-- without a list there are none
pub returns-in-Ok-None-clause-rows : goal.returns-in-Ok-None-clause-rows
returns-in-Ok-None-clause-rows g c file known =
    let size : length file ≡ g.S.Source.len c.args.source.now = g.met.S.Source.known_len c.args.source.now file known in
    c.new.ensures.items ∙ ap or_none (rw c.in-Ok-None.field-0-is at (c.in-Ok-None.ensures.list file known)) ∙ kids_between file c.args.parent (omega (arith, size, c.requires.inside.0)) c.requires.inside.1

-- they end in the source
pub returns-in-Ok-Some-clause-within : goal.returns-in-Ok-Some-clause-within
returns-in-Ok-Some-clause-within g c =
    let fill : FillSource (c.args.parent.start + c.args.parent.length) (c.args.parent.start + c.args.parent.header) c.in-Ok-Some.rows.items =
    rw c.in-Ok-Some.field-0-is at c.in-Ok-Some.ensures.fill in
    fill_rows (c.args.parent.start + c.args.parent.length) (c.args.parent.start + c.args.parent.header) (g.S.Source.len c.args.source.now) c.in-Ok-Some.rows.items fill c.requires.inside.0

-- and fill the payload
pub returns-in-Ok-Some-clause-total : goal.returns-in-Ok-Some-clause-total
returns-in-Ok-Some-clause-total g c =
    let fill : FillSource (c.args.parent.start + c.args.parent.length) (c.args.parent.start + c.args.parent.header) c.in-Ok-Some.rows.items =
    rw c.in-Ok-Some.field-0-is at c.in-Ok-Some.ensures.fill in
    let total : c.args.parent.start + c.args.parent.header + rows_len c.in-Ok-Some.rows.items ≡ c.args.parent.start + c.args.parent.length =
    fill_total (c.args.parent.start + c.args.parent.length) (c.args.parent.start + c.args.parent.header)
    c.in-Ok-Some.rows.items fill in
    omega (arith, total)
