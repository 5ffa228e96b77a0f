use Rattle.std.proofs.Common.{Ok, ap, ◌∙◌, arith, sym}
use Rattle.std.proofs.lemmas.Result.{err_from_is_err_and}
use Rattle.c2_cbor.specs.Apart.{with_texts}
use Rattle.c2_cbor_spec.specs.Reading.{is_known, pairs_seen}
use Rattle.c2_cbor.proofs.HeldApart.{fields_item, fields_wrong}
use Rattle.c2_cbor.proofs.Loops.{item_at-wrong}
use Rattle.c2_cbor_spec.proofs.Views.{view-Map}
use Rattle.c2_cbor.proofs.apart.read_apart.Goals as goal

pub returns-in_err-head : goal.returns-in_err-head
returns-in_err-head c =
    let p = err_from_is_err_and c.from_residual.result c.from_residual.ensures.1 in
    rw (p.1, p.2)
    (item_at-wrong is_known 64 c.args.bytes.now c.in_err-head.field-0.0 (omega arith) c.in_err-head.ensures)

pub returns-in_ok-fields-in-Map : goal.returns-in_ok-fields-in-Map
returns-in_ok-fields-in-Map c =
    let pairs = c.in_ok-fields-in-Map.fields.pairs in
    fields_item 64 c.args.bytes.now c.in_ok-head.rest.now c.in-Map.count (omega arith) c.args.key.now c.in_ok-fields-in-Map.fields.texts (pairs_seen pairs.items) c.in_ok-fields-in-Map.rest.now
    (c.in_ok-head.ensures ∙ ap (λ h. Ok (h, c.in_ok-head.rest.now)) c.in-Map.is) c.in_ok-fields-in-Map.ensures
    ∙ ap (λ v. Ok (with_texts c.args.key.now v c.in_ok-fields-in-Map.fields.texts, c.in_ok-fields-in-Map.rest.now)) (sym (view-Map pairs))

pub returns-in_err-fields-in-Map : goal.returns-in_err-fields-in-Map
returns-in_err-fields-in-Map c =
    let p =
    err_from_is_err_and c.from_residual-in_err-fields-in-Map.result c.from_residual-in_err-fields-in-Map.ensures.1 in
    rw (p.1, p.2) (fields_wrong 64 c.args.bytes.now c.in_ok-head.rest.now c.in-Map.count (omega arith) c.in_err-fields-in-Map.field-0.0
    (c.in_ok-head.ensures ∙ ap (λ h. Ok (h, c.in_ok-head.rest.now)) c.in-Map.is) c.in_err-fields-in-Map.ensures)
