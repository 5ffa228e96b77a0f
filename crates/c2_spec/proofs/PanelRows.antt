-- Worked panels of judges, computed. The rows are this project's own.
use Rattle.std.proofs.Common.{◌≡◌, [], ◌∷◌, refl}
use Rattle.c2_spec.specs.Judges.Panel.{first_said, panel_size}
use Rattle.c2_spec.specs.declared.panel.Verdict.TheVariants.{Approved, Untrusted, Silent}

-- The first verdict that isn't Silent holds, and nobody behind it is asked.
panels : (first_said (Silent ∷ Untrusted ∷ Approved ∷ []) ≡ Untrusted)
    × (panel_size (Silent ∷ Untrusted ∷ Approved ∷ []) ≡ 2)
    × (first_said [] ≡ Silent)
    × (panel_size (Silent ∷ []) ≡ 1)
panels = (refl, refl, refl, refl)
