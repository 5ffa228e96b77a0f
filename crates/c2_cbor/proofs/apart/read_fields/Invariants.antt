use Rattle.std.proofs.Common.{◌≡◌, suc, length, []}
use Rattle.c2_cbor.specs.Apart.{pairs_with}
use Rattle.c2_cbor_spec.specs.Reading.{is_known, pairs, pairs_seen, item_at}
use Rattle.c2_cbor_spec.specs.Tracking.{keys_of, first_equal}
use Rattle.c2_cbor.proofs.HeldApart.{IsThere}
use Rattle.c2_cbor.proofs.Loops.{PairsGo}
use Rattle.c2_cbor.proofs.KeyFaults.{Until}
use Rattle.c2_cbor_spec.proofs.Shorter.{item_at-under}
use Rattle.c2_cbor.proofs.apart.read_fields.Given as goal

abbrev pub invariant-loop-after : goal.invariant-loop-after
invariant-loop-after l =
    let total = pairs is_known (item_at is_known l.levels) (suc (length l.bytes)) l.fn.count [] l.bytes in
    Until (first_equal l.found.items) l.places.items total
    (PairsGo is_known (item_at is_known l.levels) (item_at-under is_known l.levels) total (pairs_with l.name l.texts (pairs_seen l.found.items)) (keys_of l.found.items) l.rest l.due)
    × (length l.found.items ≡ length l.places.items)
    × IsThere l.name l.texts (pairs_seen l.found.items)

abbrev pub decreases-loop-after : goal.decreases-loop-after
decreases-loop-after l = length l.rest
