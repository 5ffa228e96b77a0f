use Rattle.std.proofs.Common.{inr, refl, arith}
use Rattle.std.proofs.lemmas.Result.{err_from_is_err_and}
use Rattle.c2_jumbf.specs.Labels.{marked}
use Rattle.c2_jumbf.proofs.Opening.{unlabelled_fault, opened}
use Rattle.c2_jumbf.proofs.reading.open_super.Goals as goal

pub returns-in_err-own-clause-err : goal.returns-in_err-own-clause-err
returns-in_err-own-clause-err c =
    let p = err_from_is_err_and c.from_residual.result c.from_residual.ensures.1 in
    rw (p.1, p.2)
    (inr (unlabelled_fault c.args.region.now c.args.depth c.args.at (marked c.args.siblings.now) c.in_err-own.field-0.0 c.in_err-own.ensures.err))

pub returns-clause-ok : goal.returns-clause-ok
returns-clause-ok c =
    let own = c.in_ok-own.own in
    let is = c.in_ok-own.ensures.ok in
    opened c.args.region.now c.args.head own.head own.fields (marked c.args.siblings.now) (marked c.add.new.siblings)
    c.args.depth c.args.at _ c.len-index.result c.args.rows.now.items c.push.new.self.items c.push-2.new.self.items
    (λ i. omega (arith, c.type_inv.region i)) (omega arith) c.requires.head_is is.0 is.1.front is.1.kind is.1.fields
    c.requires.kind c.in_ok-add.ensures.ok
    c.in_ok-push.ensures.items c.in_ok-push-2.ensures.items refl
    (omega (arith, c.len-index.ensures, c.args.rows.now.ok.0))
