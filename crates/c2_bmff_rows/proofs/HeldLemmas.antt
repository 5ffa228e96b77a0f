-- The positions that boxes in their places hold.
use Rattle.std.proofs.Common.{◌≡◌, inl, inr, ℕ, ◌+◌, ◌<◌, ◌≤◌, List, [], ◌∷◌, sym, ap, ◌∙◌, arith}
use Rattle.c2_spec.specs.Bmff.Boxes.{Box, box_len}
use Rattle.c2_spec.specs.Bmff.Paths.{PlacedBox, placed_from}
use Rattle.c2_bmff_rows.proofs.PathRows.{Member}

-- a box that holds a position
abbrev pub Holds : PlacedBox → ℕ → Type 0
Holds b i = (b.at ≤ i) × (i < b.at + box_len b.box)

-- boxes begin no earlier than the first
pub begins_from : (p : ℕ) (bs : List Box) (b : PlacedBox) → Member b (placed_from p bs) → p ≤ b.at
begins_from p [] b m = absurd m
begins_from p (c ∷ cs) b (inl e) = omega (arith, ap (λ (x : PlacedBox). x.at) e)
begins_from p (c ∷ cs) b (inr m) = omega (arith, begins_from (p + box_len c) cs b m)

-- a position is held by one box
pub held_once : (p : ℕ) (bs : List Box) (b c : PlacedBox) (i : ℕ) → Member b (placed_from p bs)
    → Member c (placed_from p bs) → Holds b i → Holds c i → b ≡ c
held_once p [] b c i m n h k = absurd m
held_once p (x ∷ xs) b c i (inl e) (inl f) h k = e ∙ sym f
held_once p (x ∷ xs) b c i (inl e) (inr n) h k =
    let at : b.at ≡ p = ap (λ (y : PlacedBox). y.at) e in
    let size : box_len b.box ≡ box_len x = ap (λ (y : PlacedBox). box_len y.box) e in
    absurd (omega (arith, begins_from (p + box_len x) xs c n, h.1, k.0, at, size))
held_once p (x ∷ xs) b c i (inr m) (inl f) h k =
    let at : c.at ≡ p = ap (λ (y : PlacedBox). y.at) f in
    let size : box_len c.box ≡ box_len x = ap (λ (y : PlacedBox). box_len y.box) f in
    absurd (omega (arith, begins_from (p + box_len x) xs b m, k.1, h.0, at, size))
held_once p (x ∷ xs) b c i (inr m) (inr n) h k = held_once (p + box_len x) xs b c i m n h k
