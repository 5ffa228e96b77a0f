use Rattle.std.proofs.Common.{sym, ◌∙◌}
use Rattle.c2_jumbf.proofs.DescriptionLemmas.{lone_box, super_box, payload_here}
use Rattle.c2_jumbf.proofs.boxes.payload_of.Goals as goal

pub returns-then-next-end-clause-none : goal.returns-then-next-end-clause-none
returns-then-next-end-clause-none c =
    lone_box c.args.tree.now c.args.i c.requires (sym c.after-end.ensures.after ∙ sym c.if-next-end.true)

pub contents-requires : goal.contents-requires
contents-requires c =
    (super_box c.args.tree.now c.args.i c.requires c.after-end.ensures.legal (λ e. c.if-next-end.false (sym (c.after-end.ensures.after ∙ e)))).inside

pub returns-clause-found : goal.returns-clause-found
returns-clause-found c =
    let s =
    super_box c.args.tree.now c.args.i c.requires c.after-end.ensures.legal
    (λ e. c.if-next-end.false (sym (c.after-end.ensures.after ∙ e))) in
    payload_here c.args.tree.now c.args.i c.contents.result.now s c.contents.ensures
