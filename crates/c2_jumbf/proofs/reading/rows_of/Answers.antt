use Rattle.std.proofs.Common.{inl, inr, ⊎_elim}
use Rattle.std.proofs.lemmas.Result.{err_from_is_err_and}
use Rattle.c2_jumbf.proofs.Roots.{root_trailing, root_whole, root_fault}
use Rattle.c2_jumbf.proofs.reading.rows_of.Goals as goal

pub returns-then-total-bytes-clause-err : goal.returns-then-total-bytes-clause-err
returns-then-total-bytes-clause-err c =
    inr (root_trailing c.args.bytes.now _ _ c.in_ok-total.total _ _ c.in_ok-total.ensures.ok c.if-total-bytes.true)

pub returns-clause-ok : goal.returns-clause-ok
returns-clause-ok c =
    root_whole c.args.bytes.now _ _ c.in_ok-total.total _ _ c.new-rows.ensures.items c.in_ok-total.ensures.ok
    c.if-total-bytes.false

pub returns-in_err-total-clause-err : goal.returns-in_err-total-clause-err
returns-in_err-total-clause-err c =
    let p = err_from_is_err_and c.from_residual.result c.from_residual.ensures.1 in
    rw (p.1, p.2)
    (⊎_elim inl (λ f. inr (root_fault c.args.bytes.now _ _ c.in_err-total.field-0.0 f)) c.in_err-total.ensures.err)
