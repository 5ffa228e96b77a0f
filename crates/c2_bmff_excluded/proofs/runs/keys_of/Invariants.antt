use Rattle.std.proofs.Common.{◌≡◌, length, take, map}
use Rattle.std.specs.Prelude.{All}
use Rattle.c2_bmff_paths.specs.Exclusions.{byte_test}
use Rattle.c2_bmff_excluded.specs.Runs.{IsKeyWithin, key_test}
use Rattle.c2_bmff_excluded.proofs.runs.keys_of.Given as goal

-- the keys so far are those of the byte tests so far
abbrev pub invariant-loop-index : goal.invariant-loop-index
invariant-loop-index l = record {
  same : map (key_test l.tests) l.keys.items ≡ map byte_test (take l.index l.tests);
  within : All (IsKeyWithin (length l.tests)) l.keys.items;
}
