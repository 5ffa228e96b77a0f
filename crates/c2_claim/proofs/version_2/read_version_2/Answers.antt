use Rattle.std.proofs.Common.{sym, ◌∙◌}
use Rattle.std.proofs.lemmas.Result.{err_from_is_err_and}
use Rattle.c2_spec.specs.Cbor.View.{view}
use Rattle.c2_claim.specs.Apart.{redactions_of}
use Rattle.c2_claim.proofs.Steps.{v2_last_refused, v2_lists_refused, v2_made, v2_names_refused}
use Rattle.c2_claim.proofs.version_2.read_version_2.Goals as goal

-- a name is refused
pub returns-in_err-instance : goal.returns-in_err-instance
returns-in_err-instance c =
    let v = view c.args.item.now in
    let p = err_from_is_err_and c.from_residual.result c.from_residual.ensures.1 in
    rw (p.1, p.2)
    (v2_names_refused v (redactions_of v c.args.texts) c.in_err-instance.field-0.0
    (sym c.is_map.ensures ∙ c.if-not-is_map.false) c.in_err-instance.ensures)

-- a list is refused
pub returns-in_err-created : goal.returns-in_err-created
returns-in_err-created c =
    let v = view c.args.item.now in
    let p = err_from_is_err_and c.from_residual-in_err-created.result c.from_residual-in_err-created.ensures.1 in
    rw (p.1, p.2)
    (v2_lists_refused v (redactions_of v c.args.texts) _ c.in_err-created.field-0.0
    (sym c.is_map.ensures ∙ c.if-not-is_map.false) c.in_ok-instance.ensures c.in_err-created.ensures)

-- a field behind them is refused
pub returns-in_err-redacted : goal.returns-in_err-redacted
returns-in_err-redacted c =
    let v = view c.args.item.now in
    let p = err_from_is_err_and c.from_residual-in_err-redacted.result c.from_residual-in_err-redacted.ensures.1 in
    rw (p.1, p.2)
    (v2_last_refused v (redactions_of v c.args.texts) _ _ c.in_err-redacted.field-0.0
    (sym c.is_map.ensures ∙ c.if-not-is_map.false) c.in_ok-instance.ensures c.in_ok-created.ensures
    c.in_err-redacted.ensures)

-- the claim of all of them
pub returns : goal.returns
returns c =
    let v = view c.args.item.now in
    v2_made v (redactions_of v c.args.texts) _ _ _ (sym c.is_map.ensures ∙ c.if-not-is_map.false)
    c.in_ok-instance.ensures c.in_ok-created.ensures c.in_ok-redacted.ensures
