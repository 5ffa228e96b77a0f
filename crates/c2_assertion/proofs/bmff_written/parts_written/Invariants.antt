use Rattle.std.proofs.Common.{◌≡◌, map, take}
use Rattle.c2_spec.specs.Cbor.View.{view}
use Rattle.c2_assertion.specs.Written.{part_item}
use Rattle.c2_assertion.proofs.bmff_written.parts_written.Given as goal

-- the items are those of the first ones
abbrev pub invariant-loop-part : goal.invariant-loop-part
invariant-loop-part l = map view l.items.items ≡ map part_item (take l.part-index l.parts)
