-- Errors of the cover, as errors of the digest.
use Rattle.std.proofs.Common.{ℕ, sym, subst}
use Rattle.c2_cover.specs.Refused.{IsBmffCause}
use Rattle.c2_cover.specs.declared.cover.CoverError.{CoverError}
use Rattle.c2_cover.specs.declared.cover.CoverError.TheVariants as cover
use Rattle.c2_bmff_binding_hash.specs.Causes.{IsBmffHashCause, IsOfBoxes, IsSameError}
use Rattle.c2_bmff_binding_hash.specs.declared.error.BmffError.{BmffError}

-- an error with the cause of one of the cover of boxes is one
pub of_boxes : (before now : ℕ) (e : CoverError) → IsBmffCause before now e → IsOfBoxes e
of_boxes before now (cover.BadRange i) h = absurd h
of_boxes before now cover.ReadFault h = tt
of_boxes before now cover.NoMemory h = tt

-- an error of a BMFF hash has the cause of the cover's error that it is
pub same_cause : (before now : ℕ) (e : CoverError) (f : BmffError) → IsSameError e f → IsBmffCause before now e
    → IsBmffHashCause before now f
same_cause before now (cover.BadRange i) f is h = absurd h
same_cause before now cover.ReadFault f is h = subst (IsBmffHashCause before now) (sym is) h
same_cause before now cover.NoMemory f is h = subst (IsBmffHashCause before now) (sym is) tt
