use Rattle.std.proofs.Common.{◌≡◌, ap, sym, ◌∙◌, option_and_then, Vec, rules}
use Rattle.std.specs.declared.alloc.Global.{Global}
use Rattle.c2_spec.specs.Cbor.Item.{dict}
use Rattle.c2_spec.specs.declared.cbor.Cbor.{Cbor, Map, the_lemmas}
use Rattle.c2_spec.specs.Cbor.View.{view, pairs_view}
use Rattle.c2_spec.specs.Cbor.Lookup.{first_value, unless_null, field_of}
use Rattle.c2_cbor_fields.proofs.lookup.field.Goals as goal

-- a map as an item is its pairs
view-Map : (v : Vec (Cbor × Cbor) Global) → view (Map v) ≡ dict (pairs_view v.items)
view-Map v = search (rules, the_lemmas)

pub returns-in-Some-clause-seen : goal.returns-in-Some-clause-seen
returns-in-Some-clause-seen c =
    let key = c.args.key.now in
    c.not_null.ensures.seen ∙ ap (option_and_then unless_null) (c.in-Some.ensures.seen ∙ ap (λ ps. first_value key (pairs_view ps)) c.deref.ensures.value)
    ∙ sym (ap (λ v. field_of key (view v)) c.in-Map.is ∙ ap (field_of key) (view-Map c.in-Map.pairs))
