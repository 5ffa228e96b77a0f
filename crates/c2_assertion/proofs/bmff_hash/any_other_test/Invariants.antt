use Rattle.std.proofs.Common.{◌≡◌, drop}
use Rattle.c2_spec.specs.Bmff.Hash.{any_item, has_other_test}
use Rattle.c2_spec.specs.Cbor.View.{items_view}
use Rattle.c2_assertion.proofs.bmff_hash.any_other_test.Given as goal

-- no item so far has a test that isn't supported: whether one has is up to the items that are left
abbrev pub invariant-loop-item : goal.invariant-loop-item
invariant-loop-item l =
    any_item has_other_test (items_view (drop l.item-index l.items)) ≡ any_item has_other_test (items_view l.items)
