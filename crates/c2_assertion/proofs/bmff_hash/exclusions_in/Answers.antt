use Rattle.std.proofs.Common.{◌∙◌, ◌+◌, List, Some, sym, ap, drop}
use Rattle.c2_spec.specs.Bmff.Hash.{Exclusion, exclusion_of}
use Rattle.c2_spec.specs.Cbor.View.{items_view}
use Rattle.c2_spec.specs.Cbor.Fields.{each_of}
use Rattle.c2_spec.proofs.CborEach.{after, each_next, each_none}
use Rattle.c2_assertion.proofs.ReadEach.{each_begins, each_ends}
use Rattle.c2_assertion.proofs.bmff_hash.exclusions_in.Goals as goal

-- at first none is found
pub loop-item-init : goal.loop-item-init
loop-item-init c =
    each_begins (each_of exclusion_of (items_view c.args.items.now)) c.new-found.result.items c.new-found.ensures.items

-- with the exclusion of one item more
pub loop-item-preserved : goal.loop-item-preserved
loop-item-preserved c =
    let turn = c.loop-item in
    let items = c.args.items.now in
    each_next exclusion_of items turn.item-index c.item-item.result c.in-Some.exclusion turn.found.items
    c.loop-item-test.true c.item-item.is turn.invariant (sym c.in-Some.is ∙ c.in_ok-exclusion.ensures)
    ∙ ap (λ (es : List Exclusion). after es (each_of exclusion_of (items_view (drop (turn.item-index + 1) items))))
    (sym c.in_ok-push.ensures.items)

-- an item that is no exclusion
pub returns-in_default : goal.returns-in_default
returns-in_default c =
    let turn = c.loop-item in
    each_none exclusion_of c.args.items.now turn.item-index c.item-item.result turn.found.items c.loop-item-test.true
    c.item-item.is turn.invariant (sym c.in_default.is ∙ c.in_ok-exclusion.ensures)

-- after the last item all are found
pub returns : goal.returns
returns c =
    ap Some c.from_list.ensures
    ∙ each_ends exclusion_of c.args.items.now c.loop-item.item-index c.loop-item.found.items c.loop-item-test.false
    c.loop-item.invariant
