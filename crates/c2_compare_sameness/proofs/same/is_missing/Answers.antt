use Rattle.c2_compare_sameness.proofs.Sameness.{missing_here}
use Rattle.c2_compare_sameness.proofs.same.is_missing.Goals as goal

-- it is reached: another has all of it, or none has
pub returns : goal.returns
returns c =
    missing_here c.args.first.now c.args.second.now c.args.n c.is_reached-reached.result c.in_ok-given.given c.requires
    c.is_reached-reached.ensures c.if-not-reached.false c.in_ok-given.ensures
