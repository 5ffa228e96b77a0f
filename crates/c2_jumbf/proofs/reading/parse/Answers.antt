use Rattle.c2_jumbf.proofs.Roots.{tree_only, fault_only}
use Rattle.c2_jumbf.proofs.reading.parse.Goals as goal

pub returns-clause-only_tree : goal.returns-clause-only_tree
returns-clause-only_tree c = tree_only c.args.bytes.now c.read.result c.read.ensures.ok c.read.ensures.err

pub returns-clause-only_fault : goal.returns-clause-only_fault
returns-clause-only_fault c = fault_only c.args.bytes.now c.read.result c.read.ensures.ok c.read.ensures.err
