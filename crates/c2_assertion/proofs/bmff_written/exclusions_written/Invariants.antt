use Rattle.std.proofs.Common.{◌≡◌, map, take}
use Rattle.c2_spec.specs.Cbor.View.{view}
use Rattle.c2_assertion.specs.Written.{exclusion_item}
use Rattle.c2_assertion.proofs.bmff_written.exclusions_written.Given as goal

-- the items are those of the first ones
abbrev pub invariant-loop-exclusion : goal.invariant-loop-exclusion
invariant-loop-exclusion l = map view l.items.items ≡ map exclusion_item (take l.exclusion-index l.exclusions)
