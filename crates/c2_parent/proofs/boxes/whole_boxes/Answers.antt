use Rattle.std.proofs.Common.{◌∙◌, ℕ, ap, sym, arith, length, drop}
use Rattle.std.specs.Option.{is_some}
use Rattle.c2_spec.specs.Jumbf.Boxes.{box_at}
use Rattle.c2_spec.specs.Jumbf.Tree.{trees_bytes}
use Rattle.c2_parent.specs.Boxes.{any_boxes, front_bytes}
use Rattle.c2_parent.proofs.Contents.{boxes_behind, front_size}
use Rattle.c2_parent.proofs.Walking.{has_front, root_box}
use Rattle.c2_parent.proofs.boxes.whole_boxes.Goals as goal

pub total-requires : goal.total-requires
total-requires c =
    (has_front c.args.tree.now 0 (omega (arith, c.count-count.ensures.count, c.count-count.ensures.some)) (ap is_some (sym c.uuid_of.ensures) ∙ sym c.is_some.ensures ∙ c.if-is_some.true)).inside

pub split_at-requires : goal.split_at-requires
split_at-requires c =
    let t = c.args.tree.now in
    let h =
    has_front t 0 (omega (arith, c.count-count.ensures.count, c.count-count.ensures.some))
    (ap is_some (sym c.uuid_of.ensures) ∙ sym c.is_some.ensures ∙ c.if-is_some.true) in
    omega (arith, c.total.ensures, ap length h.front, front_size (box_at t 0).box, ap length c.contents-all.ensures)

pub returns-then-is_some : goal.returns-then-is_some
returns-then-is_some c =
    let t = c.args.tree.now in
    let h =
    has_front t 0 (omega (arith, c.count-count.ensures.count, c.count-count.ensures.some))
    (ap is_some (sym c.uuid_of.ensures) ∙ sym c.is_some.ensures ∙ c.if-is_some.true) in
    c.split_at.ensures.back ∙ ap (λ (n : ℕ). drop n c.contents-all.result.now) (c.total.ensures ∙ ap length h.front)
    ∙ ap (drop (length (front_bytes (box_at t 0).box))) c.contents-all.ensures
    ∙ boxes_behind (box_at t 0).box ∙ ap (λ b. trees_bytes (any_boxes b)) (root_box t)
