use Rattle.std.proofs.Common.{◌∙◌, ◌∷◌, ◌++◌, [], List, codes, map, ap}
use Rattle.std.proofs.lemmas.Result.{on_ok_weaker}
use Rattle.c2_spec.specs.Cbor.Item.{Item, list}
use Rattle.c2_spec.specs.Cbor.View.{items_of}
use Rattle.c2_spec.specs.Cbor.Writing.{field, pair_view}
use Rattle.c2_spec.proofs.CborViews.{view-List}
use Rattle.c2_assertion.proofs.bmff_written.add_exclusions.Goals as goal

-- the items that are added are those of the exclusions
pub returns : goal.returns
returns c =
    let old = map pair_view c.args.fields.now.items in
    on_ok_weaker c.add_field.result
    (λ added. added
    ∙ ap (λ (v : Item). old ++ field (codes "exclusions") v ∷ [])
    (view-List c.in_ok-items.items ∙ ap (λ (vs : List Item). list (items_of vs)) c.in_ok-items.ensures))
    c.add_field.ensures
