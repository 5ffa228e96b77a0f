use Rattle.std.proofs.Common.{rules, refl, arith}
use Rattle.std.proofs.lemmas.Result.{err_from_is_err_and}
use Rattle.c2_jumbf.proofs.Opening.{open_deep, open_empty, open_head, open_kind, open_fields, payload_length}
use Rattle.c2_jumbf.proofs.reading.description_in.Goals as goal

pub returns-then-depth-gt-MAX_SUPERBOX_DEPTH-clause-err : goal.returns-then-depth-gt-MAX_SUPERBOX_DEPTH-clause-err
returns-then-depth-gt-MAX_SUPERBOX_DEPTH-clause-err c =
    λ earlier. open_deep c.args.region.now c.args.head c.args.depth c.args.at earlier c.requires.head_is c.requires.kind (omega arith)

pub returns-then-is_empty-clause-err : goal.returns-then-is_empty-clause-err
returns-then-is_empty-clause-err c =
    λ earlier. open_empty c.args.region.now c.args.head c.args.depth c.args.at earlier c.requires.head_is c.requires.kind (omega arith) (search rules)

pub returns-in_err-own-clause-err : goal.returns-in_err-own-clause-err
returns-in_err-own-clause-err c = λ earlier.
    let p = err_from_is_err_and c.from_residual.result c.from_residual.ensures.1 in
    rw (p.1, p.2)
    (open_head c.args.region.now c.args.head c.args.depth c.args.at _ earlier c.in_err-own.field-0.0 c.requires.head_is c.requires.kind (omega arith) (search rules) refl c.in_err-own.ensures.err)

pub returns-then-own-ne-JUMD-clause-err : goal.returns-then-own-ne-JUMD-clause-err
returns-then-own-ne-JUMD-clause-err c =
    λ earlier. open_kind c.args.region.now c.args.head c.in_ok-own.own c.args.depth c.args.at earlier c.requires.head_is c.requires.kind (omega arith) c.in_ok-own.ensures.ok c.if-own-ne-JUMD.true

pub returns-in-None-clause-err : goal.returns-in-None-clause-err
returns-in-None-clause-err c =
    λ earlier. open_fields c.args.region.now c.args.head c.in_ok-own.own c.args.depth c.args.at _ earlier c.requires.head_is c.requires.kind (omega arith) c.in_ok-own.ensures.ok c.if-own-ne-JUMD.false refl c.in-None.ensures.none

pub returns-in-Some-clause-ok : goal.returns-in-Some-clause-ok
returns-in-Some-clause-ok c =
    (omega arith, record { front = c.in_ok-own.ensures.ok; kind = c.if-own-ne-JUMD.false; fields = c.in-Some.ensures.found; inside = omega (arith, c.in_ok-own.ensures.ok.inside, payload_length c.args.region.now c.args.head c.requires.head_is, c.requires.head_is.least) })
