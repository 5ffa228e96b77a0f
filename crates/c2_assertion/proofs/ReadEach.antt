-- Ends of a loop that reads a list of items: before the first item, and after the last.
use Rattle.std.proofs.Common.{◌≡◌, ℕ, ◌≤◌, List, [], length, drop, Option, Some, None, refl, sym, ap, ◌∙◌, append-nil}
use Rattle.std.proofs.lemmas.List.{drop_all}
use Rattle.c2_spec.specs.Cbor.Item.{Item}
use Rattle.c2_spec.specs.Cbor.View.{items_view}
use Rattle.c2_spec.specs.Cbor.Fields.{each_of}
use Rattle.c2_spec.specs.declared.cbor.Cbor.{Cbor}
use Rattle.c2_spec.proofs.CborEach.{after}

-- behind none, the rest is as it is
behind_none : {A : Type 0} (rest : Option (List A)) → rest ≡ after [] rest
behind_none None = refl
behind_none (Some xs) = refl

-- the start of the loop, with none found
pub each_begins : {A : Type 0} (rest : Option (List A)) (found : List A) → found ≡ [] → rest ≡ after found rest
each_begins rest found none = behind_none rest ∙ ap (λ xs. after xs rest) (sym none)

-- the end of the loop, behind the last item
pub each_ends : {A : Type 0} (read : Item → Option A) (vs : List Cbor) (i : ℕ) (found : List A) → length vs ≤ i
    → each_of read (items_view vs) ≡ after found (each_of read (items_view (drop i vs)))
    → Some found ≡ each_of read (items_view vs)
each_ends read vs i found all so_far =
    sym (so_far ∙ ap (λ ws. after found (each_of read (items_view ws))) (drop_all i vs all) ∙ ap Some (append-nil found))
