use Rattle.std.proofs.Common.{◌≡◌, drop}
use Rattle.c2_spec.specs.Cbor.View.{items_view}
use Rattle.c2_spec.specs.C2pa.Assertion.{range_of}
use Rattle.c2_spec.specs.Cbor.Fields.{each_of}
use Rattle.c2_spec.proofs.CborEach.{after}
use Rattle.c2_assertion.proofs.data_hash.ranges_in.Given as goal

-- the ranges of all items are those found so far, then those of the items that are left
abbrev pub invariant-loop-item : goal.invariant-loop-item
invariant-loop-item l =
    each_of range_of (items_view l.items) ≡ after l.found.items
    (each_of range_of (items_view (drop l.item-index l.items)))
