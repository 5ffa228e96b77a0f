-- The tests at a place that was found.
use Rattle.std.proofs.Common.{◌≡◌, ℕ, List, length, Option, Some, None, sym, ap, ◌∙◌, subst}
use Rattle.c2_definition.specs.declared.types.Definition.{Definition}
use Rattle.c2_without_store.specs.Clears.{cleared}
use Rattle.c2_new_file_spec.specs.Places.{IsPlace}
use Rattle.c2_build_refusals.specs.Kinds.{WithoutFault}
use Rattle.c2_build_refusals.specs.Refusals.{Ground, first_refusal, ground_tests, number_tests}
use Rattle.c2_build_refusals.specs.declared.error.BuildError.{BuildError}
use Rattle.c2_build_refusals.specs.declared.types.Draft.{Draft}
use Rattle.c2_build_refusals.specs.declared.types.BuildBase.{BuildBase}
use Rattle.c2_build_refusals.specs.declared.types.InsertPoint.{InsertPoint}
use Rattle.c2_build_refusals.proofs.Outside.{outside_map}
use Rattle.c2_build_base.specs.Grounds.{IsGround}
use Rattle.c2_build_place.specs.PointsLeft.{HasInsertPoint}
use Rattle.c2_build_in_place.specs.Numbers.{IsDraft}
use Rattle.c2_build_in_place.proofs.Stored.{numbered}
use Rattle.c2_build_drafts.specs.Drafts.{IsDraftedOver, IsRefusedAt}

module _ (hash : List ℕ → List ℕ) (media : List ℕ) (d : Definition) (k : BuildBase) (s : InsertPoint) (size : ℕ) (g : Ground) (is : IsGround hash media d k g) (at : HasInsertPoint (cleared k.clearing media) s) (long : size ≡ length (cleared k.clearing media)) where
  -- the place is one of what is left
  pub place_is : IsPlace g.base at.0
  place_is = subst (λ (b : List ℕ). IsPlace b at.0) (sym is.base) at.1

  -- the tests are those of the ground
  same_tests : (o : Option BuildError) → first_refusal (number_tests size k.manifests g.content at.0) ≡ o
      → first_refusal (ground_tests g at.0) ≡ o
  same_tests o h =
      sym (ap (λ (n : ℕ). first_refusal (number_tests n k.manifests g.content at.0)) (long ∙ ap length (sym is.base))
      ∙ ap (λ (n : ℕ). first_refusal (number_tests (length g.base) n g.content at.0)) (sym is.manifests)) ∙ h

  -- none of them fails
  pub place_passed : (f : Draft) → first_refusal (number_tests size k.manifests g.content at.0) ≡ None
      → IsDraft g.content s size f → IsDraftedOver hash media d (record { ground = k; point = s; draft = f }) g
  place_passed f none draft = record {
    place = at.0;
    over =
        record
        { ground = is; place = place_is; point = at.2; numbers = numbered g.content s size f g.base at.0 draft place_is at.2 };
    passed = same_tests None none;
  }

  -- one of them does
  pub place_refused : (e : BuildError)
      → WithoutFault e (first_refusal (number_tests size k.manifests g.content at.0) ≡ Some e)
      → WithoutFault e (IsRefusedAt g e)
  place_refused e h = outside_map e (λ first. (at.0, place_is, same_tests (Some e) first)) h
