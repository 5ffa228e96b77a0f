use Rattle.c2_cmd_reading.specs.Reading.{PreparesFound, PreparesTree}
use Rattle.c2_cmd_reading.proofs.Preparing.{prepares_found}
use Rattle.c2_cmd_outcome.proofs.Replying.{each_ok}
use Rattle.c2_opening.proofs.TheLaws.{here_tree}
use Rattle.c2_cmd_reading.proofs.prepare.prepare_found.Goals as goal

-- where the manifests of a store were read, what is asked of them is what is asked over the store
pub returns-in-Here-clause-prepared : goal.returns-in-Here-clause-prepared
returns-in-Here-clause-prepared c =
    each_ok (PreparesTree c.in-Here.tree) (PreparesFound c.args.found.now) c.prepare_store.result
    (λ p h. prepares_found c.args.found.now c.in-Here.tree p
    (here_tree c.args.found.now _ c.in-Here.tree c.in-Here.store c.in-Here.is c.in_ok-tree.ensures) h)
    c.prepare_store.ensures.prepared
