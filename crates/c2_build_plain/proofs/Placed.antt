-- What was drafted at a place in what is left of a media file.
use Rattle.std.proofs.Common.{inr, ℕ, List, refl}
use Rattle.std.specs.Prelude.{Ok}
use Rattle.c2_base.specs.declared.values.Question.{Question}
use Rattle.c2_spec.specs.declared.digest.Alg.{Alg}
use Rattle.c2_spec.specs.declared.panel.Verdict.{Verdict}
use Rattle.c2_definition.specs.declared.types.Definition.{Definition}
use Rattle.c2_build_refusals.specs.Stages.{IsGroundStage, MediaKind}
use Rattle.c2_build_refusals.specs.Refusals.{Ground}
use Rattle.c2_build_plain.specs.Steps.{IsDrafted, IsRefusedPlace}
use Rattle.c2_build_refusals.specs.declared.types.Drafted.{Drafted}
use Rattle.c2_build_refusals.specs.declared.error.BuildError.{BuildError}
use Rattle.c2_build_drafts.specs.Drafts.{IsDraftedOver, IsRefusedAt}
use Rattle.c2_new_file_spec.specs.Store.{new_alg}

-- what was drafted over a ground was drafted over a media file of this kind
pub place_passed : (hash : Alg → List ℕ → List ℕ) (said : Question → Verdict) (media : List ℕ) (d : Definition) (kind : MediaKind) (w : Drafted) (g : Ground)
    → IsGroundStage hash said media d kind (Ok g) → IsDraftedOver (hash (new_alg d)) media d w g
    → IsDrafted hash said media d kind w
place_passed hash said media d kind w g stage at =
    record
    { ground = g; place = at.place; passed = record { ground = stage; stage = (at.place, at.over.place, refl); numbers = at.passed }; over = at.over }

-- the place of a media file of this kind is refused where that of its ground is
pub place_refused : (hash : Alg → List ℕ → List ℕ) (said : Question → Verdict) (media : List ℕ) (d : Definition) (kind : MediaKind) (g : Ground) (e : BuildError)
    → IsGroundStage hash said media d kind (Ok g) → IsRefusedAt g e → IsRefusedPlace hash said media d kind e
place_refused hash said media d kind g e stage at = inr (g, stage, (at.0, (at.0, at.1, refl), at.2))
