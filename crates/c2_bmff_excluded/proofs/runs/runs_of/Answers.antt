use Rattle.std.proofs.Common.{◌∙◌, List, ap, map}
use Rattle.std.specs.List.{list_all}
use Rattle.c2_bmff_excluded.specs.Marks.{holds_test}
use Rattle.c2_bmff_excluded.specs.Runs.{key_test}
use Rattle.c2_bmff_excluded.specs.declared.runs.Key.{Key}
use Rattle.c2_bmff_excluded.proofs.runs.runs_of.Goals as goal

-- the runs ask what the keys' byte tests do
pub returns-clause-same : goal.returns-clause-same
returns-clause-same c file r =
    c.in_ok-runs.ensures.same file r
    ∙ ap (λ (ks : List Key). list_all (holds_test file r) (map (key_test c.args.tests.now) ks))
    c.as_slice.ensures.value
    ∙ c.in_ok-keys.ensures.same file r
