use Rattle.std.proofs.Common.{◌≡◌, map, take}
use Rattle.c2_spec.specs.Cbor.View.{view}
use Rattle.c2_bmff_paths.specs.Exclusions.{byte_test}
use Rattle.c2_assertion.specs.Written.{test_item}
use Rattle.c2_assertion.proofs.bmff_written.tests_written.Given as goal

-- the items are those of the first ones
abbrev pub invariant-loop-test : goal.invariant-loop-test
invariant-loop-test l = map view l.items.items ≡ map test_item (map byte_test (take l.test-index l.tests))
