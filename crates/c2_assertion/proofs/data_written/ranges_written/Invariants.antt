use Rattle.std.proofs.Common.{◌≡◌, map, take}
use Rattle.c2_spec.specs.Cbor.View.{view}
use Rattle.c2_assertion.specs.Written.{range_item}
use Rattle.c2_assertion.proofs.data_written.ranges_written.Given as goal

-- the items are those of the first ones
abbrev pub invariant-loop-range : goal.invariant-loop-range
invariant-loop-range l = map view l.items.items ≡ map range_item (take l.range-index l.ranges)
