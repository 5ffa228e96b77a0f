use Rattle.std.proofs.Common.{suc, map, length}
use Rattle.c2_spec.specs.Cbor.Item.{text}
use Rattle.c2_cbor_spec.specs.Reading.{is_known, items, item_at}
use Rattle.c2_cbor.proofs.Loops.{ItemsGo}
use Rattle.c2_cbor_spec.proofs.Shorter.{item_at-under}
use Rattle.c2_cbor.proofs.apart.read_texts.Given as goal

abbrev pub invariant-loop-after : goal.invariant-loop-after
invariant-loop-after l =
    ItemsGo (item_at is_known l.levels) (item_at-under is_known l.levels)
    (items (item_at is_known l.levels) (suc (length l.bytes)) l.fn.count l.bytes) (map text l.found.items) l.rest
    l.due

abbrev pub decreases-loop-after : goal.decreases-loop-after
decreases-loop-after l = length l.rest
