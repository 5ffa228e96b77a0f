use Rattle.std.proofs.Common.{◌≡◌, ℕ, List, [], ◌++◌, take, map, filter_map, cond, Some, None}
use Rattle.c2_rules.specs.Rules.{is_binding, label_kind}
use Rattle.c2_check_ingredients.proofs.bindings.bindings.Given as goal

-- of the labels that were passed those of bindings were kept, in order
abbrev pub invariant-loop-k : goal.invariant-loop-k
invariant-loop-k l =
    map (λ x. x.now) l.found.items ≡ [] ++ filter_map (λ (n : List ℕ). cond (is_binding (label_kind n)) (Some n) None)
    (take l.k (map (λ x. x.now) l.labels))
