use Rattle.c2_collect.proofs.Flags.{carried_behind}
use Rattle.c2_collect.proofs.joining.carry_into.Goals as goal

pub returns : goal.returns
returns c =
    carried_behind c.args.other.now c.reached.result.now c.args.out.now.items c.append_with.new.out.items
    c.reached.ensures.flags c.in_ok-append_with.ensures
