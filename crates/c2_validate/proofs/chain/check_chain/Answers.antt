use Rattle.std.proofs.Common.{refl}
use Rattle.c2_chain.specs.declared.asking.ChainError.TheVariants.{NoMemory}
use Rattle.c2_calls_spec.proofs.PanelLemmas.{hears_early}
use Rattle.c2_validate.specs.Checks.{ChainAsks}
use Rattle.c2_validate.proofs.chain.check_chain.Goals as goal

-- memory ran out before anybody was asked
pub returns-in-Err-clause-panel : goal.returns-in-Err-clause-panel
returns-in-Err-clause-panel g c =
    hears_early _ _ _ _ (ChainAsks g.H.Hashing.digest_of c.args.chain.now.readings) c.args.judges.now NoMemory refl
