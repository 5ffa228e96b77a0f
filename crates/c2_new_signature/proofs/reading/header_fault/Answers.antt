use Rattle.std.proofs.Common.{List, sym, ap, subst, ◌∙◌}
use Rattle.c2_spec.specs.Cbor.Item.{Item}
use Rattle.c2_spec.specs.Cbor.View.{view, pairs_view}
use Rattle.c2_spec.specs.declared.cbor.Cbor.{Cbor}
use Rattle.c2_new_signature.specs.Tested.{EntriesTested, HeaderTested}
use Rattle.c2_new_signature.proofs.reading.header_fault.Goals as goal
use Rattle.c2_cbor_spec.proofs.Views.{view-Map}

-- a map is tested by its entries
pub returns-in-Map : goal.returns-in-Map
returns-in-Map c =
    subst (λ (v : Item). HeaderTested v c.entries_fault.result) (sym (ap view c.in-Map.is ∙ view-Map c.in-Map.entries))
    (subst (λ (ps : List (Cbor × Cbor)). EntriesTested (pairs_view ps) c.entries_fault.result) c.as_slice.ensures.value c.entries_fault.ensures)
