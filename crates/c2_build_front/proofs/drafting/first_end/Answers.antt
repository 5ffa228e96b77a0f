use Rattle.std.proofs.Common.{◌∙◌}
use Rattle.c2_build_front.proofs.Rows.{told_refused}
use Rattle.c2_build_front.proofs.drafting.first_end.Goals as goal

-- the first root box says no size
pub returns-then-first-clause-refused : goal.returns-then-first-clause-refused
returns-then-first-clause-refused c =
    λ boxes is. told_refused c.as_slice.result.now _ boxes c.in-len1-up.len_at_least (c.as_slice.ensures.boxes ∙ is) c.if-first.true
