use Rattle.std.proofs.Common.{◌+◌, ◌≤◌, length, Option, IfSome, subst}
use Rattle.c2_base.specs.declared.limits.TheConstants.{MAX_STORE_LEN}
use Rattle.c2_base.specs.declared.media.Found.{Found}
use Rattle.c2_opening.proofs.find.unrefused.Goals as goal

-- the range of a store that was found
pub returns-in-Some-clause-within : goal.returns-in-Some-clause-within
returns-in-Some-clause-within c = λ len h. (
  subst (λ (o : Option Found). IfSome o (λ f. f.start + f.length ≤ len)) c.in-Some.is h.range,
  subst (λ (o : Option Found). IfSome o (λ f. length f.store ≤ MAX_STORE_LEN)) c.in-Some.is h.store,
  h.roots,
)

-- a container alone
pub returns-in-None-clause-within : goal.returns-in-None-clause-within
returns-in-None-clause-within c = λ len h. h.roots
