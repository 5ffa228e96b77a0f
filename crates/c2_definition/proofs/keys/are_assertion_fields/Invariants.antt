use Rattle.std.proofs.Common.{◌≡◌}
use Rattle.serde_json.specs.View.{members_view}
use Rattle.c2_definition.specs.DefinitionFile.{is_assertion_field}
use Rattle.c2_definition.specs.Json.{keys_pass}
use Rattle.c2_definition.proofs.keys.are_assertion_fields.Given as goal

-- the keys so far pass
abbrev pub invariant-loop-key : goal.invariant-loop-key
invariant-loop-key l =
    keys_pass is_assertion_field (members_view l.members.entries) ≡ keys_pass is_assertion_field
    (members_view l.key-iterator)
