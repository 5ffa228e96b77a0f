use Rattle.std.proofs.Common.{◌∙◌, List, ℕ, length, sym, ap, subst}
use Rattle.std.specs.Prelude.{All, IfSome, map}
use Rattle.std.specs.List.{list_all}
use Rattle.std.specs.declared.option.Option.{Option}
use Rattle.c2_bmff_excluded.specs.Marks.{holds_test}
use Rattle.c2_bmff_excluded.specs.Runs.{AreRunsWithin, IsRunWithin, asked, run_test}
use Rattle.c2_bmff_excluded.specs.declared.runs.Run.{Run}
use Rattle.c2_bmff_excluded.specs.declared.runs.Runs.{Runs}
use Rattle.c2_bmff_excluded.proofs.RunLemmas.{least_long, least_short, no_box_false}
use Rattle.c2_bmff_excluded.proofs.marking.meets_all.Goals as goal

-- the runs are among the bytes
pub meets_runs-requires-clause-within : goal.meets_runs-requires-clause-within
meets_runs-requires-clause-within g c =
    let within : AreRunsWithin c.in-Some.all =
    subst (λ (t : Option Runs). IfSome t AreRunsWithin) c.in-Some.is c.requires.within in
    subst (λ (bs : List ℕ). All (IsRunWithin (length bs)) c.as_slice-runs.result.now)
    (sym c.as_slice-bytes.ensures.value)
    (subst (All (IsRunWithin (length c.in-Some.all.bytes.items))) (sym c.as_slice-runs.ensures.value) within)

-- no box meets what none can
pub returns-in_default-clause-meets : goal.returns-in_default-clause-meets
returns-in_default-clause-meets g c file known =
    sym (no_box_false file c.args.row)
    ∙ ap (λ (t : Option Runs). list_all (holds_test file c.args.row) (asked t)) (sym c.in_default.is)

-- a box that is too short doesn't
pub returns-then-row-all-clause-meets : goal.returns-then-row-all-clause-meets
returns-then-row-all-clause-meets g c file known =
    sym (least_short file c.args.row c.in-Some.all.least (map (run_test c.in-Some.all.bytes.items) c.in-Some.all.runs.items) c.if-row-all.true)
    ∙ ap (λ (t : Option Runs). list_all (holds_test file c.args.row) (asked t)) (sym c.in-Some.is)

-- one that is long enough does just when all runs stand in it
pub returns-clause-meets : goal.returns-clause-meets
returns-clause-meets g c file known =
    c.in_ok-same.ensures.meets file known
    ∙ ap (λ (bs : List ℕ). list_all (holds_test file c.args.row) (map (run_test bs) c.as_slice-runs.result.now))
    c.as_slice-bytes.ensures.value
    ∙ ap (λ (rs : List Run). list_all (holds_test file c.args.row) (map (run_test c.in-Some.all.bytes.items) rs)) c.as_slice-runs.ensures.value
    ∙ sym (least_long file c.args.row c.in-Some.all.least (map (run_test c.in-Some.all.bytes.items) c.in-Some.all.runs.items) c.if-row-all.false)
    ∙ ap (λ (t : Option Runs). list_all (holds_test file c.args.row) (asked t)) (sym c.in-Some.is)
