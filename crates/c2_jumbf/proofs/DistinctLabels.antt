-- One more label that is new among labels that are distinct.
use Rattle.std.proofs.Common.{◌≡◌, ◌≢◌, List, [], ◌∷◌, ◌++◌, ℕ, Option, Some, None, sym}
use Rattle.std.specs.List.{AllByRecursion}
use Rattle.c2_spec.specs.Jumbf.Tree.{AreDistinctLabels, IsNewLabel}
use Rattle.c2_spec.proofs.JumbfNoFault.{tail_new}

-- no later label is an earlier one
apart : (t u : Option (List ℕ)) (os : List (Option (List ℕ))) → IsNewLabel t os → IsNewLabel u (t ∷ os)
    → IsNewLabel t (os ++ u ∷ [])
apart None u os h k = tt
apart (Some t) u os h k = go os h (λ e. differ u k e)
  where
    differ : (u : Option (List ℕ)) → IsNewLabel u (Some t ∷ os) → u ≡ Some t → ⊥
    differ None k e = cc (e)
    differ (Some s) k e = k.0 (sym e)

    go : (ps : List (Option (List ℕ))) → AllByRecursion (λ p. p ≢ Some t) ps → u ≢ Some t
        → AllByRecursion (λ p. p ≢ Some t) (ps ++ u ∷ [])
    go [] h n = (n, tt)
    go (p ∷ ps) h n = (h.0, go ps h.1 n)

-- labels that are distinct stay so with one more that is new
pub distinct-push : (os : List (Option (List ℕ))) (u : Option (List ℕ)) → AreDistinctLabels os → IsNewLabel u os
    → AreDistinctLabels (os ++ u ∷ [])
distinct-push [] u h k = (lonely u, tt)
  where
    lonely : (o : Option (List ℕ)) → IsNewLabel o []
    lonely None = tt
    lonely (Some t) = tt
distinct-push (o ∷ os) u h k = (apart o u os h.0 k, distinct-push os u h.1 (tail_new u o os k))
