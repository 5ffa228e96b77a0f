use Rattle.std.proofs.Common.{◌≡◌, ◌++◌, List, map, drop, string_bytes}
use Rattle.serde_json.specs.Data.{Data}
use Rattle.c2_texts.specs.Items.{items_inside}
use Rattle.c2_texts.specs.Show.{entry_data}
use Rattle.c2_texts.proofs.claims.push_entries.Given as goal

-- what is written so far and the items to come are, whatever follows, all items behind the text of the start
abbrev pub invariant-loop-entry : goal.invariant-loop-entry
invariant-loop-entry l =
    (rest : List Data) → string_bytes l.out ++ items_inside l.later
    (map entry_data (drop l.entry-index l.entries) ++ rest) ≡ string_bytes l.initial.out ++ items_inside l.fn.before
    (map entry_data l.entries ++ rest)
