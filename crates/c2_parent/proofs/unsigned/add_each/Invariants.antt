use Rattle.std.proofs.Common.{◌≡◌, ◌||◌, ℕ, List, take}
use Rattle.std.specs.List.{list_any}
use Rattle.std.specs.Str.{bytes_eq}
use Rattle.c2_label_index.specs.Labels.{is_among}
use Rattle.c2_rules.specs.Chains.{passes_some}
use Rattle.c2_rules.specs.Readings.{ReadBox}
use Rattle.c2_parent.specs.Refused.{unsigned_in}
use Rattle.c2_parent.proofs.unsigned.add_each.Given as goal

-- since the start, what the first `k` boxes name so came in
abbrev pub invariant-loop-k : goal.invariant-loop-k
invariant-loop-k l =
    (label : List ℕ) → is_among l.labels label
    ≡ (is_among l.initial.labels label || list_any (λ (b : ReadBox). passes_some (bytes_eq label) (unsigned_in b)) (take l.k l.found))
