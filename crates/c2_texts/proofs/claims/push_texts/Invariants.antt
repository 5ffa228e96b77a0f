use Rattle.std.proofs.Common.{◌≡◌, ◌++◌, false, map, drop, string_bytes}
use Rattle.serde_json.specs.Data.{string}
use Rattle.c2_texts.specs.Items.{items_inside}
use Rattle.c2_texts.proofs.claims.push_texts.Given as goal

-- what is written so far and the items to come are the array's items behind the text of the start
abbrev pub invariant-loop-text : goal.invariant-loop-text
invariant-loop-text l =
    string_bytes l.out ++ items_inside l.later (map string (drop l.text-index l.texts)) ≡ string_bytes l.initial.out
    ++ items_inside false (map string l.texts)
