use Rattle.std.proofs.Common.{◌≡◌, ◌-◌, ◌^◌, min, take}
use Rattle.std.specs.Prelude.{sum_by}
use Rattle.c2_layout.proofs.Sizes.{assertion_size}
use Rattle.c2_layout.proofs.size.boxes_len.Given as goal

-- the first ones are counted
abbrev pub invariant-loop-assertion : goal.invariant-loop-assertion
invariant-loop-assertion l = l.len ≡ min (sum_by assertion_size (take l.assertion-index l.all)) (2 ^ 64 - 1)
