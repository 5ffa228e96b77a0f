use Rattle.std.proofs.Common.{◌≡◌, drop}
use Rattle.serde_json.specs.Find.{as_str}
use Rattle.serde_json.specs.View.{items_view}
use Rattle.c2_definition.specs.Json.{each_of}
use Rattle.c2_definition.proofs.Each.{and_then_all}
use Rattle.c2_definition.proofs.members.texts_of.Given as goal

-- the texts so far, and those of the items that are left
abbrev pub invariant-loop-item : goal.invariant-loop-item
invariant-loop-item l =
    each_of as_str (items_view l.items) ≡ and_then_all l.texts.items
    (each_of as_str (items_view (drop l.item-index l.items)))
