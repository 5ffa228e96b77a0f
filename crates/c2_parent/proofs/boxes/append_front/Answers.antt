use Rattle.std.proofs.Common.{◌≡◌, ◌++◌, ◌∙◌, List, ℕ, ap, sym, subst, arith}
use Rattle.std.specs.Option.{is_some}
use Rattle.std.specs.Result.{OnOk}
use Rattle.c2_parent.proofs.Walking.{HasFront, has_front}
use Rattle.c2_parent.proofs.boxes.append_front.Goals as goal

-- the description of a superbox is the next box
front : (c : goal.After-append_box-arg-1) → HasFront c.args.tree.now c.args.i
front c =
    has_front c.args.tree.now c.args.i c.requires
    (ap is_some (sym c.uuid_of.ensures) ∙ sym c.is_some.ensures ∙ c.if-is_some.true)

pub overflow_add-i : goal.overflow_add-i
overflow_add-i c = let h = front c in omega (arith, h.inside, c.count-count.ensures.count, c.count-count.type_inv)

pub append_box-requires : goal.append_box-requires
append_box-requires c = (front c).inside

pub returns-then-is_some : goal.returns-then-is_some
returns-then-is_some c =
    let h =
    has_front c.args.tree.now c.args.i c.requires
    (ap is_some (sym c.uuid_of.ensures) ∙ sym c.is_some.ensures ∙ c.if-is_some.true) in
    subst (λ (x : List ℕ). OnOk c.append_box.result (c.append_box.new.out.items ≡ c.args.out.now.items ++ x)) h.front
    c.append_box.ensures
