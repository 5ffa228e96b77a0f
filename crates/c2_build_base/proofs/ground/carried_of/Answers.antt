use Rattle.std.proofs.Common.{◌∙◌}
use Rattle.c2_build_base.proofs.ground.carried_of.Goals as goal

-- the redactions are those of the definition
pub carried_with-requires-clause-redactions : goal.carried_with-requires-clause-redactions
carried_with-requires-clause-redactions g c = c.in-Ok.ensures ∙ c.as_slice.ensures
