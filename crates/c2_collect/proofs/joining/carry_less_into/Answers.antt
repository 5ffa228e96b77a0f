use Rattle.c2_collect.proofs.Less.{carried_less_behind, count_reached}
use Rattle.c2_collect.proofs.joining.carry_less_into.Goals as goal

pub returns-clause-joined : goal.returns-clause-joined
returns-clause-joined c =
    carried_less_behind c.args.other.now c.reached-wanted.result.now c.args.redactions.now c.args.out.now.items
    c.append_one_less.new.out.items c.reached-wanted.ensures.flags c.in_ok-append_one_less.ensures

pub returns-clause-count : goal.returns-clause-count
returns-clause-count c =
    count_reached c.args.other.now c.reached-wanted.result.now c.wanted_count.result c.reached-wanted.ensures.flags
    c.reached-wanted.ensures.count c.wanted_count.ensures
