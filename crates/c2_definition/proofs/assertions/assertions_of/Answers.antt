use Rattle.std.proofs.Common.{Some, sym, ap, ◌∙◌}
use Rattle.c2_definition.specs.DefinitionFile.{assertion_of}
use Rattle.c2_definition.proofs.Each.{each_next, each_stops, each_done}
use Rattle.c2_definition.proofs.assertions.assertions_of.Goals as goal

-- one more item is a new assertion
pub loop-item-preserved : goal.loop-item-preserved
loop-item-preserved c =
    each_next assertion_of c.args.items.now c.loop-item.item-index c.item-item.result c.in-Some.assertion
    c.loop-item.assertions.items _ c.loop-item-test.true c.item-item.is c.loop-item.invariant
    (sym c.in-Some.is ∙ c.in_ok-assertion.ensures) c.in_ok-push.ensures.items

-- an item is none
pub returns-in_default : goal.returns-in_default
returns-in_default c =
    each_stops assertion_of c.args.items.now c.loop-item.item-index c.item-item.result c.loop-item.assertions.items
    c.loop-item-test.true c.item-item.is c.loop-item.invariant (sym c.in_default.is ∙ c.in_ok-assertion.ensures)

-- all items are new assertions
pub returns : goal.returns
returns c =
    ap Some c.from_list.ensures
    ∙ each_done assertion_of c.args.items.now c.loop-item.item-index c.loop-item.assertions.items
    c.loop-item-test.false c.loop-item.invariant
