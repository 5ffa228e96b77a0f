use Rattle.std.proofs.Common.{◌∙◌, length, ap}
use Rattle.std.specs.List.{list_all}
use Rattle.std.proofs.lemmas.List.Sorted.{All-permutation}
use Rattle.c2_bmff_excluded.specs.Marks.{holds_test}
use Rattle.c2_bmff_excluded.specs.Runs.{IsKeyWithin, key_test}
use Rattle.c2_bmff_excluded.proofs.RunLemmas.{all_map_permuted}
use Rattle.c2_bmff_excluded.proofs.runs.sorted_keys.Goals as goal

-- in any order the same boxes meet the byte tests of the keys
pub returns-clause-same : goal.returns-clause-same
returns-clause-same c file r =
    all_map_permuted (holds_test file r) (key_test c.args.tests.now) c.in_ok-keys.keys.items
    c.sort_unstable_by_key.new.self.items c.sort_unstable_by_key.ensures.permutation
    ∙ ap (list_all (holds_test file r)) c.in_ok-keys.ensures.same

-- and they are of tests that are there
pub returns-clause-within : goal.returns-clause-within
returns-clause-within c =
    All-permutation (IsKeyWithin (length c.args.tests.now)) c.in_ok-keys.keys.items
    c.sort_unstable_by_key.new.self.items c.sort_unstable_by_key.ensures.permutation c.in_ok-keys.ensures.within
