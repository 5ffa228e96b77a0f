use Rattle.std.proofs.Common.{◌≡◌, ◌≤◌, ◌+◌, arith, ◌∙◌, sym, subst, length, ℕ, List}
use Rattle.c2_spec.specs.Jumbf.Boxes.{box_at, any_wide}
use Rattle.c2_jumbf.specs.Flat.{row_of}
use Rattle.c2_jumbf.proofs.Records.{rows_count, row_here, row_ends, row_bytes}
use Rattle.c2_spec.proofs.JumbfBoxes.{any_long, any_least}
use Rattle.c2_spec.specs.Jumbf.Tree.{head_len}
use Rattle.c2_jumbf.proofs.boxes.bytes_of.Goals as goal

pub index-row-requires : goal.index-row-requires
index-row-requires c =
    omega
    (arith, rows_count c.tree.inside.bytes.now c.tree.inside.rows.items c.tree.inside.parsed c.args.tree.now c.tree.view_is, c.tree.inside.rows.ok.0)

pub overflow_add-result : goal.overflow_add-result
overflow_add-result c =
    let r : c.index-row.result.now ≡ row_of (box_at c.args.tree.now c.args.i) =
    c.index-row.ensures
    ∙ row_here c.tree.inside.bytes.now c.tree.inside.rows.items c.tree.inside.parsed c.args.tree.now c.args.i _
    c.tree.view_is c.requires in
    let e : c.index-row.result.now.place + c.index-row.result.now.total ≤ length c.tree.inside.bytes.now =
    row_ends c.tree.inside.bytes.now c.tree.inside.rows.items c.tree.inside.parsed c.args.tree.now c.args.i
    c.index-row.result.now c.tree.view_is c.requires r in
    omega arith

pub slice_bounds-result-end : goal.slice_bounds-result-end
slice_bounds-result-end c =
    let r : c.index-row.result.now ≡ row_of (box_at c.args.tree.now c.args.i) =
    c.index-row.ensures
    ∙ row_here c.tree.inside.bytes.now c.tree.inside.rows.items c.tree.inside.parsed c.args.tree.now c.args.i _
    c.tree.view_is c.requires in
    let e : c.index-row.result.now.place + c.index-row.result.now.total ≤ length c.tree.inside.bytes.now =
    row_ends c.tree.inside.bytes.now c.tree.inside.rows.items c.tree.inside.parsed c.args.tree.now c.args.i
    c.index-row.result.now c.tree.view_is c.requires r in
    omega arith

pub returns : goal.returns
returns c =
    let r : c.index-row.result.now ≡ row_of (box_at c.args.tree.now c.args.i) =
    c.index-row.ensures
    ∙ row_here c.tree.inside.bytes.now c.tree.inside.rows.items c.tree.inside.parsed c.args.tree.now c.args.i _
    c.tree.view_is c.requires in
    let same =
    row_bytes c.tree.inside.bytes.now c.tree.inside.rows.items c.tree.inside.parsed c.args.tree.now c.args.i
    c.index-row.result.now c.tree.view_is c.requires r in
    record {
      bytes = same;
      long =
          subst (λ (x : List ℕ). head_len (any_wide (box_at c.args.tree.now c.args.i).box) ≤ length x) (sym same)
          (any_long (box_at c.args.tree.now c.args.i).box);
      least = subst (λ (x : List ℕ). 8 ≤ length x) (sym same) (any_least (box_at c.args.tree.now c.args.i).box);
    }
