use Rattle.std.proofs.Common.{◌∙◌, ℕ, List, [], ap, length}
use Rattle.std.specs.Prelude.{map}
use Rattle.std.proofs.lemmas.List.{get_or_default, take_all}
use Rattle.c2_bmff_paths.specs.Exclusions.{byte_test}
use Rattle.c2_bmff_excluded.proofs.RunLemmas.{keys_more, keys_within}
use Rattle.c2_bmff_excluded.proofs.runs.keys_of.Goals as goal

-- with the key of the next byte test, they are those of one more
pub loop-index-preserved : goal.loop-index-preserved
loop-index-preserved c =
    let before = c.loop-index.invariant in
    let tests = c.args.tests.now in
    let k = c.loop-index.index in
    record {
      same =
          keys_more tests c.loop-index.keys.items c.push.new.self.items k _ c.in_ok-push.ensures.items
          c.loop-index-test.true
          (ap (λ (p : ℕ × List ℕ). p.0) (get_or_default tests k c.index-tests-index.result (0, []) c.loop-index-test.true))
          before.same;
      within =
          keys_within (length tests) c.loop-index.keys.items c.push.new.self.items k _ c.in_ok-push.ensures.items
          c.loop-index-test.true before.within;
    }

-- after the last, they are those of all
pub returns-clause-same : goal.returns-clause-same
returns-clause-same c =
    c.loop-index.invariant.same
    ∙ ap (map byte_test) (take_all c.loop-index.index c.args.tests.now c.loop-index-test.false)
