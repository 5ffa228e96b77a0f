use Rattle.std.proofs.Common.{◌≡◌, drop}
use Rattle.std.specs.List.{list_any}
use Rattle.c2_spec.specs.Bmff.Hash.{Exclusion}
use Rattle.c2_spec.specs.Bmff.Paths.{enters_other}
use Rattle.c2_assertion.proofs.bmff_hash.enters_otherwise.Given as goal

-- no path so far enters a box that none may enter: whether one does is up to the exclusions that are left
abbrev pub invariant-loop-exclusion : goal.invariant-loop-exclusion
invariant-loop-exclusion l =
    list_any (λ (e : Exclusion). enters_other e.path) (drop l.exclusion-index l.exclusions) ≡ list_any
    (λ (e : Exclusion). enters_other e.path) l.exclusions
