use Rattle.std.proofs.Common.{◌≡◌, ◌++◌, ◌∷◌, suc, length, map, [], Ok, ap, ◌∙◌, sym}
use Rattle.std.proofs.lemmas.Result.{err_from_is_err_and}
use Rattle.std.proofs.lemmas.List.{map_push}
use Rattle.c2_spec.specs.Cbor.Item.{text}
use Rattle.c2_spec.specs.Cbor.View.{view}
use Rattle.c2_cbor_spec.specs.Reading.{is_known, items, item_at}
use Rattle.c2_cbor_spec.proofs.Shorter.{under_ok, item_at-under}
use Rattle.c2_cbor.proofs.Loops.{items_on, items_wrong, items_out}
use Rattle.c2_cbor_spec.proofs.Views.{view-text}
use Rattle.c2_cbor.proofs.apart.read_texts.Goals as goal

pub returns-in-Some : goal.returns-in-Some
returns-in-Some c =
    rw c.from_list.ensures (items_out (item_at is_known c.args.levels) (item_at-under is_known c.args.levels) (items (item_at is_known c.args.levels) (suc (length c.args.bytes.now)) c.args.count c.args.bytes.now)
    (map text c.loop-after.found.items) c.loop-after.rest.now c.loop-after.due c.in-Some.after.now (sym c.in-Some.ensures) c.loop-after.invariant)

pub returns-in_err-item : goal.returns-in_err-item
returns-in_err-item c =
    let p = err_from_is_err_and c.from_residual.result c.from_residual.ensures.1 in
    rw (p.1, p.2) (items_wrong (item_at is_known c.args.levels) (item_at-under is_known c.args.levels) (items (item_at is_known c.args.levels) (suc (length c.args.bytes.now)) c.args.count c.args.bytes.now)
    (map text c.loop-after.found.items) c.loop-after.rest.now c.loop-after.due c.in_err-item.field-0.0 (sym c.in-None.ensures) c.in_err-item.ensures c.loop-after.invariant)

pub loop-after-smaller : goal.loop-after-smaller
loop-after-smaller c =
    under_ok _ (item_at is_known c.args.levels c.loop-after.rest.now) _ _ c.in_ok-item.ensures
    (item_at-under is_known c.args.levels c.loop-after.rest.now)

pub loop-after-preserved : goal.loop-after-preserved
loop-after-preserved c =
    let e : map text c.push_member.new.members.items ≡ map text c.loop-after.found.items ++ text c.in-Text.text ∷ [] =
    ap (map text) c.in_ok-push_member.ensures ∙ map_push text c.loop-after.found.items c.in-Text.text in
    let is : item_at is_known c.args.levels c.loop-after.rest.now ≡ Ok (text c.in-Text.text, c.in_ok-item.after.now) =
    c.in_ok-item.ensures
    ∙ ap (λ v. Ok (v, c.in_ok-item.after.now)) (ap view c.in-Text.is ∙ view-text c.in-Text.text) in
    rw (e, c.one_fewer-due.ensures) (items_on (item_at is_known c.args.levels) (item_at-under is_known c.args.levels) (items (item_at is_known c.args.levels) (suc (length c.args.bytes.now)) c.args.count c.args.bytes.now)
    (map text c.loop-after.found.items) c.loop-after.rest.now c.loop-after.due (text c.in-Text.text) c.in_ok-item.after.now (sym c.in-None.ensures) is c.loop-after.invariant)
