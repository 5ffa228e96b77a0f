use Rattle.std.proofs.Common.{ap, ◌∙◌, drop}
use Rattle.std.proofs.lemmas.List.{take_rest}
use Rattle.c2_spec.specs.Jumbf.Tree.{head_len}
use Rattle.c2_spec.specs.Jumbf.Boxes.{box_at, any_wide}
use Rattle.c2_jumbf.specs.declared.rows.Row.{Row}
use Rattle.c2_spec.proofs.JumbfBoxes.{any_behind}
use Rattle.c2_jumbf.proofs.boxes.contents.Goals as goal

pub returns : goal.returns
returns c = take_rest c.bytes_of.result.now c.row_at-header.result.header ∙ ap (λ (r : Row). drop r.header c.bytes_of.result.now) c.row_at-header.ensures.row
    ∙ ap (drop (head_len (any_wide (box_at c.args.tree.now c.args.i).box))) c.bytes_of.ensures.bytes
    ∙ any_behind (box_at c.args.tree.now c.args.i).box
