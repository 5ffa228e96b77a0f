use Rattle.std.proofs.Common.{sym, ◌∙◌}
use Rattle.std.proofs.lemmas.Result.{err_from_is_err_and}
use Rattle.c2_spec.specs.Cbor.View.{view}
use Rattle.c2_claim.specs.Apart.{redactions_of}
use Rattle.c2_claim.proofs.Steps.{v1_last_refused, v1_made, v1_own_refused}
use Rattle.c2_claim.proofs.version_1.read_version_1.Goals as goal

-- the signature or the list is refused
pub returns-in_err-signature : goal.returns-in_err-signature
returns-in_err-signature c =
    let v = view c.args.item.now in
    let p = err_from_is_err_and c.from_residual.result c.from_residual.ensures.1 in
    rw (p.1, p.2)
    (v1_own_refused v (redactions_of v c.args.texts) c.in_err-signature.field-0.0
    (sym c.is_map.ensures ∙ c.if-not-is_map.false) c.in_err-signature.ensures)

-- a field behind them is refused
pub returns-in_err-redacted : goal.returns-in_err-redacted
returns-in_err-redacted c =
    let v = view c.args.item.now in
    let p = err_from_is_err_and c.from_residual-in_err-redacted.result c.from_residual-in_err-redacted.ensures.1 in
    rw (p.1, p.2)
    (v1_last_refused v (redactions_of v c.args.texts) _ c.in_err-redacted.field-0.0
    (sym c.is_map.ensures ∙ c.if-not-is_map.false) c.in_ok-signature.ensures c.in_err-redacted.ensures)

-- the claim of all of them
pub returns : goal.returns
returns c =
    let v = view c.args.item.now in
    v1_made v (redactions_of v c.args.texts) _ _ c.in_ok-instance.instance c.from_list.result
    (sym c.is_map.ensures ∙ c.if-not-is_map.false) c.in_ok-signature.ensures c.in_ok-redacted.ensures
    c.in_ok-instance.ensures (c.from_list.ensures ∙ c.new.ensures.items)
