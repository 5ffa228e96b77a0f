-- The entries of a fill, put behind those of a map one after the other.
use Rattle.std.proofs.Common.{◌≡◌, ℕ, List, [], ◌∷◌, ◌++◌, codes, Option, Some, None, refl, ap, ◌∙◌}
use Rattle.c2_spec.specs.Cbor.Item.{Item, Pairs, no_pairs, pair}
use Rattle.c2_spec.specs.Cbor.View.{view, pairs_view}
use Rattle.c2_spec.specs.declared.cbor.Cbor.{Cbor}
use Rattle.c2_spec.specs.C2pa.Message.{pairs_then}
use Rattle.c2_pad.specs.declared.types.Fill.{Fill}
use Rattle.c2_pad.specs.Fill.{zeros_before, fill_pairs}
use Rattle.c2_sigstruct.proofs.Entries.{then_then, view_push}

-- a pair of these two items stands behind the others
pub pushed : (old : List (Cbor × Cbor)) (k v : Cbor) (l w : Item) → view k ≡ l → view v ≡ w
    → pairs_view (old ++ (k, v) ∷ []) ≡ pairs_then (pairs_view old) (pair l w no_pairs)
pushed old k v l w a b =
    view_push old k v ∙ ap (λ x. pairs_then (pairs_view old) (pair x (view v) no_pairs)) a
    ∙ ap (λ x. pairs_then (pairs_view old) (pair l x no_pairs)) b

-- an entry before others is the entry, and then the others
one_then : (key : List ℕ) (o : Option ℕ) (qs : Pairs)
    → pairs_then (zeros_before key o no_pairs) qs ≡ zeros_before key o qs
one_then key None qs = refl
one_then key (Some n) qs = refl

-- one entry put behind, and then the other, are those of the fill
pub both_pushed : (ps : Pairs) (f : Fill)
    → pairs_then (pairs_then ps (zeros_before (codes "pad") f.pad no_pairs)) (zeros_before (codes "pad2") f.pad2 no_pairs) ≡ pairs_then ps (fill_pairs f)
both_pushed ps f =
    then_then ps (zeros_before (codes "pad") f.pad no_pairs) (zeros_before (codes "pad2") f.pad2 no_pairs)
    ∙ ap (pairs_then ps) (one_then (codes "pad") f.pad (zeros_before (codes "pad2") f.pad2 no_pairs))
