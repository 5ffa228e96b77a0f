use Rattle.std.proofs.Common.{◌≡◌, ◌++◌, take, map, filter_map}
use Rattle.c2_rules.specs.Chains.{entry_label}
use Rattle.c2_check_ingredients.proofs.bindings.push_labels.Given as goal

-- the labels that the passed entries list stand after what was there before
abbrev pub invariant-loop-k : goal.invariant-loop-k
invariant-loop-k l =
    map (λ x. x.now) l.found.items ≡ map (λ x. x.now) l.initial.found.items ++ filter_map (entry_label l.own.manifest)
    (take l.k l.entries)
