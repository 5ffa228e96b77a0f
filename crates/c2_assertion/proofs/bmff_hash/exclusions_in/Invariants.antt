use Rattle.std.proofs.Common.{◌≡◌, drop}
use Rattle.c2_spec.specs.Bmff.Hash.{exclusion_of}
use Rattle.c2_spec.specs.Cbor.View.{items_view}
use Rattle.c2_spec.specs.Cbor.Fields.{each_of}
use Rattle.c2_spec.proofs.CborEach.{after}
use Rattle.c2_assertion.proofs.bmff_hash.exclusions_in.Given as goal

-- the exclusions of all items are those found so far, then those of the items that are left
abbrev pub invariant-loop-item : goal.invariant-loop-item
invariant-loop-item l =
    each_of exclusion_of (items_view l.items) ≡ after l.found.items
    (each_of exclusion_of (items_view (drop l.item-index l.items)))
