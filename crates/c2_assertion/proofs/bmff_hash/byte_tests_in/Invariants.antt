use Rattle.std.proofs.Common.{◌≡◌, drop}
use Rattle.std.specs.Prelude.{map}
use Rattle.c2_bmff_paths.specs.Exclusions.{byte_test}
use Rattle.c2_spec.specs.Bmff.Hash.{test_of}
use Rattle.c2_spec.specs.Cbor.View.{items_view}
use Rattle.c2_spec.specs.Cbor.Fields.{each_of}
use Rattle.c2_spec.proofs.CborEach.{after}
use Rattle.c2_assertion.proofs.bmff_hash.byte_tests_in.Given as goal

-- the byte tests of all items are those found so far, then those of the items that are left
abbrev pub invariant-loop-item : goal.invariant-loop-item
invariant-loop-item l =
    each_of test_of (items_view l.items) ≡ after (map byte_test l.found.items)
    (each_of test_of (items_view (drop l.item-index l.items)))
