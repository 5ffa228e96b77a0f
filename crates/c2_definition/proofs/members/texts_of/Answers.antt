use Rattle.std.proofs.Common.{Some, sym, ap, ◌∙◌}
use Rattle.std.specs.Option.{option_map}
use Rattle.serde_json.specs.Find.{as_str}
use Rattle.c2_definition.proofs.Each.{each_next, each_stops, each_done}
use Rattle.c2_definition.proofs.members.texts_of.Goals as goal

-- one more item is a text
pub loop-item-preserved : goal.loop-item-preserved
loop-item-preserved c =
    each_next as_str c.args.items.now c.loop-item.item-index c.item-item.result c.in_ok-text.text
    c.loop-item.texts.items _ c.loop-item-test.true c.item-item.is c.loop-item.invariant
    (ap Some c.in_ok-text.ensures ∙ sym (ap (option_map (λ t. t.now)) c.in-Some.is) ∙ c.as_str.ensures)
    c.in_ok-push.ensures.items

-- an item is no text
pub returns-in_default : goal.returns-in_default
returns-in_default c =
    each_stops as_str c.args.items.now c.loop-item.item-index c.item-item.result c.loop-item.texts.items
    c.loop-item-test.true c.item-item.is c.loop-item.invariant
    (sym (ap (option_map (λ t. t.now)) c.in_default.is) ∙ c.as_str.ensures)

-- all items are texts
pub returns : goal.returns
returns c =
    ap Some c.from_list.ensures
    ∙ each_done as_str c.args.items.now c.loop-item.item-index c.loop-item.texts.items c.loop-item-test.false
    c.loop-item.invariant
