use Rattle.std.proofs.Common.{refl, slice_get}
use Rattle.c2_rules.specs.CheckList.{questions_of}
use Rattle.c2_calls_spec.specs.Asks.{AsksThese}
use Rattle.c2_chain.specs.declared.asking.ChainError.TheVariants.{NoMemory}
use Rattle.c2_calls_spec.proofs.PanelLemmas.{hears_early}
use Rattle.c2_chain.proofs.manifest.check_alone.Goals as goal

-- memory ran out before anybody was asked
pub returns-in-Err-clause-panel : goal.returns-in-Err-clause-panel
returns-in-Err-clause-panel g c =
    hears_early _ _ _ _ (AsksThese (questions_of (slice_get c.args.chain.now c.args.i))) c.args.judges.now NoMemory refl
