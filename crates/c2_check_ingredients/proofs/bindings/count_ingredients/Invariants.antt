use Rattle.std.proofs.Common.{◌≡◌, ◌≤◌, length, filter, take}
use Rattle.c2_rules.specs.Ingredients.{is_ingredient}
use Rattle.c2_rules.specs.Readings.{ReadBox}
use Rattle.c2_check_ingredients.proofs.bindings.count_ingredients.Given as goal

-- the passed boxes of ingredients are counted, and are no more than were passed
abbrev pub invariant-loop-k : goal.invariant-loop-k
invariant-loop-k l = record {
  counted : l.count ≡ length (filter (λ (b : ReadBox). is_ingredient b.boxed) (take l.k l.boxes));
  small : l.count ≤ l.k;
}
