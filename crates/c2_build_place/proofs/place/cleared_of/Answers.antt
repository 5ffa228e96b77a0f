use Rattle.std.proofs.Common.{◌≡◌, Option, refl, sym, ap, ◌∙◌, subst}
use Rattle.c2_base.specs.declared.media.Found.{Found}
use Rattle.c2_base.specs.declared.values.Range.{Range}
use Rattle.c2_spec.specs.PutIn.{taken_out}
use Rattle.c2_container.specs.Contained.{IsContainerOf}
use Rattle.c2_container.specs.declared.types.Container.{Container}
use Rattle.c2_jpegseg_survey.specs.Surveys.{range_of}
use Rattle.c2_new_file_spec.specs.Bases.{IsLeft}
use Rattle.c2_without_store.specs.Clears.{cleared, root_clearing}
use Rattle.c2_without_store.specs.declared.clearing.Clearing.{Clearing}
use Rattle.c2_without_store.specs.declared.clearing.Clearing.TheVariants.{Cut}
use Rattle.c2_build_place.specs.PointsLeft.{clearing_by}
use Rattle.c2_build_place.proofs.Points.{bmff_found, bmff_left, jpeg_form, jpeg_left}
use Rattle.c2_build_place.proofs.place.cleared_of.Goals as goal

-- the range of the store is cut out of a JPEG file
pub returns-in-Jpeg-clause-is : goal.returns-in-Jpeg-clause-is
returns-in-Jpeg-clause-is c =
    ap Cut c.found_range.ensures ∙ ap (λ (k : Container). clearing_by k c.args.file.now.found) (sym c.in-Jpeg.is)

pub returns-in-Jpeg-clause-left : goal.returns-in-Jpeg-clause-left
returns-in-Jpeg-clause-left c = λ bytes f found is.
    subst (λ (r : Range). IsLeft bytes f.start f.length (taken_out r.start r.length bytes)) (sym (c.found_range.ensures ∙ ap range_of found)) (jpeg_left bytes f.start f.length (jpeg_form bytes (subst (IsContainerOf bytes) c.in-Jpeg.is is.container)))

pub returns-in-Jpeg-clause-fresh : goal.returns-in-Jpeg-clause-fresh
returns-in-Jpeg-clause-fresh c =
    λ none bytes. subst (λ (r : Range). taken_out r.start r.length bytes ≡ bytes) (sym (c.found_range.ensures ∙ ap range_of none)) refl

-- a BMFF file is cleared to its base
pub returns-in-Bmff-clause-is : goal.returns-in-Bmff-clause-is
returns-in-Bmff-clause-is c =
    c.clearing_of.ensures.is ∙ ap (λ (k : Container). clearing_by k c.args.file.now.found) (sym c.in-Bmff.is)

pub returns-in-Bmff-clause-left : goal.returns-in-Bmff-clause-left
returns-in-Bmff-clause-left c = λ bytes f found is.
    let of = subst (IsContainerOf bytes) c.in-Bmff.is is.container in
    bmff_left bytes f.start f.length c.clearing_of.result of.0
    (c.clearing_of.ensures.clears bytes of.1 (bmff_found bytes c.args.file.now.found of.0 is.located))

pub returns-in-Bmff-clause-fresh : goal.returns-in-Bmff-clause-fresh
returns-in-Bmff-clause-fresh c = λ none bytes.
    subst (λ (k : Clearing). cleared k bytes ≡ bytes) (sym c.clearing_of.ensures.is) (subst (λ (o : Option Found). cleared (root_clearing o c.in-Bmff.roots) bytes ≡ bytes) (sym none) refl)
