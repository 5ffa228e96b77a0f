use Rattle.std.proofs.Common.{◌+◌, ◌≡◌, ◌≤◌, ◌<◌, ap, sym, ◌∙◌, subst}
use Rattle.c2_spec.specs.Jumbf.Boxes.{box_at, any_count, index_after, tree_count}
use Rattle.c2_spec.proofs.JumbfBoxes.{box_index, after_past, after_within}
use Rattle.c2_jumbf.specs.declared.rows.Row.{Row}
use Rattle.c2_jumbf.proofs.boxes.after.Goals as goal

pub returns : goal.returns
returns c =
    let t = c.args.tree.now in
    let is : c.row_at.result.after ≡ index_after t c.args.i =
    ap (λ (r : Row). r.after) c.row_at.ensures.row
    ∙ ap (λ n. n + any_count (box_at t c.args.i).box) (box_index t c.args.i c.requires) in
    record {
      after = is;
      past = subst (λ n. c.args.i < n) (sym is) (after_past t c.args.i);
      within = subst (λ n. n ≤ tree_count t) (sym is) (after_within t c.args.i c.requires);
      legal = c.row_at.ensures.legal;
    }
