use Rattle.std.proofs.Common.{sym, ap, ◌∙◌, length}
use Rattle.std.specs.Option.{option_map}
use Rattle.c2_compare_spec.specs.Differences.{unredacted_at}
use Rattle.c2_compare_evidence.specs.Differing.{view}
use Rattle.c2_compare_difference.proofs.Found.{down_found, down_passed}
use Rattle.c2_compare_difference.proofs.search.all_unredacted.Goals as goal

-- the first that differs is at this place
pub returns-in-Some : goal.returns-in-Some
returns-in-Some c =
    down_found (unredacted_at c.args.first.now c.args.second.now) (length c.args.first.now) c.loop-n.n (view c.in-Some.found) c.loop-n-test.true c.loop-n.invariant
    (ap (option_map view) (sym c.in-Some.is) ∙ c.in_ok-found.ensures)

-- none differs at this place
pub loop-n-preserved : goal.loop-n-preserved
loop-n-preserved c =
    down_passed (unredacted_at c.args.first.now c.args.second.now) (length c.args.first.now) c.loop-n.n
    c.loop-n-test.true c.loop-n.invariant
    (ap (option_map view) (sym c.in_default.is) ∙ c.in_ok-found.ensures)
