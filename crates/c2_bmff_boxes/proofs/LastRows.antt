-- The last of rows that follow one another.
use Rattle.std.proofs.Common.{◌≡◌, ℕ, zero, suc, ◌+◌, List, [], ◌∷◌, length, get_or, ap, ◌∙◌, arith}
use Rattle.c2_bmff_boxes.specs.Roots.{FillSource}
use Rattle.c2_bmff_rows.specs.declared.row.RootBox.{RootBox}

-- it ends where they do
pub last_ends : (size low n : ℕ) (rows : List RootBox) (d : RootBox) → n + 1 ≡ length rows → FillSource size low rows
    → (get_or rows n d).start + (get_or rows n d).length ≡ size
last_ends size low n [] d last h = absurd (omega (arith, last))
last_ends size low n (r ∷ []) d last h =
    let here : n ≡ 0 = omega (arith, last) in
    ap (λ (i : ℕ). (get_or (r ∷ []) i d).start + (get_or (r ∷ []) i d).length) here ∙ ap (λ (k : ℕ). k + r.length) h.0
    ∙ h.3
last_ends size low zero (r ∷ s ∷ rs) d last h = absurd (omega (arith, last))
last_ends size low (suc n) (r ∷ s ∷ rs) d last h =
    last_ends size (low + r.length) n (s ∷ rs) d (omega (arith, last)) h.3
