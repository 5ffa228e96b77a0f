use Rattle.std.proofs.Common.{◌≡◌, IfSome, slice_get, length}
use Rattle.c2_rules.specs.Chains.{any_below}
use Rattle.c2_compare_spec.specs.Deciding.{gives_at}
use Rattle.c2_compare_sameness.proofs.same.is_given.Given as goal

-- no manifest behind this place has all of it
abbrev pub invariant-loop-m : goal.invariant-loop-m
invariant-loop-m l = IfSome (slice_get l.left.all.now l.left.place) (λ r.
    let gives = gives_at l.left.all.now l.left.place r l.second in
    any_below gives (length l.second) ≡ any_below gives l.m)
