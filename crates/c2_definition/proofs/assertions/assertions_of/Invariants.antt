use Rattle.std.proofs.Common.{◌≡◌, drop}
use Rattle.serde_json.specs.View.{items_view}
use Rattle.c2_definition.specs.DefinitionFile.{assertion_of}
use Rattle.c2_definition.specs.Json.{each_of}
use Rattle.c2_definition.proofs.Each.{and_then_all}
use Rattle.c2_definition.proofs.assertions.assertions_of.Given as goal

-- the assertions so far, and those of the items that are left
abbrev pub invariant-loop-item : goal.invariant-loop-item
invariant-loop-item l =
    each_of assertion_of (items_view l.items) ≡ and_then_all l.assertions.items
    (each_of assertion_of (items_view (drop l.item-index l.items)))
