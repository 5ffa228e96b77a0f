use Rattle.std.proofs.Common.{arith}
use Rattle.std.proofs.lemmas.List.{take_rest}
use Rattle.c2_jumbf.proofs.FieldLemmas.{fixed_here}
use Rattle.c2_jumbf.proofs.fields.fixed_part.Goals as goal

pub returns-clause-found : goal.returns-clause-found
returns-clause-found c =
    fixed_here c.args.on c.args.size c.args.bytes.now _ c.if-not-on.false (omega arith)
    (take_rest c.args.bytes.now c.args.size)
