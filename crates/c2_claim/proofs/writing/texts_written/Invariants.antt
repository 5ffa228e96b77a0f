use Rattle.std.proofs.Common.{◌≡◌, map, take}
use Rattle.c2_spec.specs.Cbor.Item as item
use Rattle.c2_spec.specs.Cbor.View.{view}
use Rattle.c2_claim.proofs.writing.texts_written.Given as goal

abbrev pub invariant-loop-text : goal.invariant-loop-text
invariant-loop-text l = map view l.items.items ≡ map item.text (take l.text-index l.texts)
