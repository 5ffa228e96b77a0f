use Rattle.std.proofs.Common.{◌∙◌, ◌+◌, List, Some, sym, ap, drop}
use Rattle.c2_base.specs.declared.values.Range.{Range}
use Rattle.c2_spec.specs.C2pa.Assertion.{range_of}
use Rattle.c2_spec.specs.Cbor.View.{items_view}
use Rattle.c2_spec.specs.Cbor.Fields.{each_of}
use Rattle.c2_spec.proofs.CborEach.{after, each_next, each_none}
use Rattle.c2_assertion.proofs.ReadEach.{each_begins, each_ends}
use Rattle.c2_assertion.proofs.data_hash.ranges_in.Goals as goal

-- at first none is found
pub loop-item-init : goal.loop-item-init
loop-item-init c = each_begins (each_of range_of (items_view c.args.items.now)) c.new-found.result.items c.new-found.ensures.items

-- with the range of one item more
pub loop-item-preserved : goal.loop-item-preserved
loop-item-preserved c =
    let turn = c.loop-item in
    let items = c.args.items.now in
    each_next range_of items turn.item-index c.item-item.result c.in-Some.range turn.found.items c.loop-item-test.true
    c.item-item.is turn.invariant c.in-Some.ensures
    ∙ ap (λ (rs : List Range). after rs (each_of range_of (items_view (drop (turn.item-index + 1) items))))
    (sym c.in_ok-push.ensures.items)

-- an item that is no range
pub returns-in_default : goal.returns-in_default
returns-in_default c =
    let turn = c.loop-item in
    each_none range_of c.args.items.now turn.item-index c.item-item.result turn.found.items c.loop-item-test.true
    c.item-item.is turn.invariant (sym c.in_default.is ∙ c.range_in.ensures)

-- after the last item all are found
pub returns : goal.returns
returns c =
    ap Some c.from_list.ensures
    ∙ each_ends range_of c.args.items.now c.loop-item.item-index c.loop-item.found.items c.loop-item-test.false
    c.loop-item.invariant
