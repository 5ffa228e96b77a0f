-- A file that is no BMFF file comes to what it does as a JPEG.
use Rattle.std.proofs.Common.{◌≡◌, sym, ℕ, Bool, false, List, subst}
use Rattle.std.specs.Bool.{MatchBool}
use Rattle.c2_spec.specs.Bmff.Store.{IsBmffLocated}
use Rattle.c2_spec.specs.Container.{IsLocated, is_bmff}
use Rattle.c2_spec.specs.Jpeg.Store as jpeg
use Rattle.c2_spec.specs.Located.{Located}

-- what a JPEG has as its store is what the file has, where it is no BMFF file
pub as_jpeg : (file : List ℕ) (what : Located) → is_bmff file ≡ false → jpeg.IsLocated file what → IsLocated file what
as_jpeg file what e h = subst (λ (b : Bool). MatchBool b (IsBmffLocated file what) (jpeg.IsLocated file what)) (sym e) h

-- what is located in a file that is no BMFF file is located as in a JPEG
pub of_jpeg : (file : List ℕ) (what : Located) → is_bmff file ≡ false → IsLocated file what → jpeg.IsLocated file what
of_jpeg file what e h = subst (λ (b : Bool). MatchBool b (IsBmffLocated file what) (jpeg.IsLocated file what)) e h
