use Rattle.std.proofs.Common.{arith}
use Rattle.c2_jumbf.proofs.FieldLemmas.{private_here, private_bad, private_short}
use Rattle.c2_jumbf.proofs.fields.is_private.Goals as goal

pub returns-in_default-clause-none : goal.returns-in_default-clause-none
returns-in_default-clause-none c =
    private_bad c.args.on c.args.bytes.now c.in_default.field-0 c.if-not-on.false c.in_default.ensures.err

pub returns-then-head-bytes-clause-none : goal.returns-then-head-bytes-clause-none
returns-then-head-bytes-clause-none c =
    private_short c.args.on c.args.bytes.now c.in-Ok.head c.if-not-on.false c.in-Ok.ensures.ok c.if-head-bytes.true

pub returns-clause-found : goal.returns-clause-found
returns-clause-found c =
    private_here c.args.on c.args.bytes.now c.in-Ok.head c.if-not-on.false (λ i. omega (arith, c.type_inv.bytes i))
    (omega arith) c.in-Ok.ensures.ok c.if-head-bytes.false
