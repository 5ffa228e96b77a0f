use Rattle.std.proofs.Common.{◌≡◌, map, take}
use Rattle.c2_spec.specs.Cbor.View.{view}
use Rattle.c2_spec.specs.Cbor.Writing.{ref_item}
use Rattle.c2_claim.proofs.writing.refs_written.Given as goal

abbrev pub invariant-loop-reference : goal.invariant-loop-reference
invariant-loop-reference l = map view l.items.items ≡ map ref_item (take l.reference-index l.references)
