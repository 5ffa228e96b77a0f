use Rattle.std.proofs.Common.{Ok, ap, ◌∙◌}
use Rattle.std.proofs.lemmas.Result.{err_from_is_err_and}
use Rattle.c2_cbor_spec.specs.Reading.{is_known}
use Rattle.c2_cbor.proofs.HeldApart.{texts_item}
use Rattle.c2_cbor.proofs.Loops.{item_at-wrong}
use Rattle.c2_cbor.proofs.apart.read_list.Goals as goal

pub returns-in_err-head : goal.returns-in_err-head
returns-in_err-head c =
    let p = err_from_is_err_and c.from_residual.result c.from_residual.ensures.1 in
    rw (p.1, p.2)
    (item_at-wrong is_known c.args.levels c.args.bytes.now c.in_err-head.field-0.0 c.requires c.in_err-head.ensures)

pub returns-in-List : goal.returns-in-List
returns-in-List c =
    texts_item c.args.levels c.args.bytes.now c.in_ok-head.rest.now c.in-List.count c.requires (λ x. x.0) (λ x. x.1.now) c.read_texts.result
    (c.in_ok-head.ensures ∙ ap (λ h. Ok (h, c.in_ok-head.rest.now)) c.in-List.is) c.read_texts.ensures
