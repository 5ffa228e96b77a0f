-- A file is of one container, which its first bytes tell, and comes to what it does as one of it.
use Rattle.std.proofs.Common.{◌≡◌, ℕ, Bool, true, not, ◌&&◌, List, [], ◌∷◌, take, refl, sym, ap, ◌∙◌, subst, bytes_eq}
use Rattle.std.proofs.lemmas.Bool.{and_from, and_parts}
use Rattle.std.specs.Bool.{MatchBool}
use Rattle.c2_spec.specs.Bmff.Boxes.{begins_bmff}
use Rattle.c2_spec.specs.Bmff.Store.{IsBmffLocated}
use Rattle.c2_spec.specs.Container.{Container, IsContainer, IsLocated, begins_jpeg, bmff, is_bmff, jpeg}
use Rattle.c2_spec.specs.Jpeg.Store as jpeg_store
use Rattle.c2_spec.specs.Located.{Located}
use Rattle.c2_spec.proofs.BmffOneList.{roots_once}

-- no file that begins as a JPEG is read by root boxes
pub never_both : (file : List ℕ) → begins_jpeg file ≡ true → is_bmff file ≡ true → ⊥
never_both file is also =
    let none = sym (ap (λ (b : Bool). not b && begins_bmff file) is) ∙ also in cc (none)

-- a file has one container
pub one_container : (file : List ℕ) (c d : Container) → IsContainer file c → IsContainer file d → c ≡ d
one_container file jpeg jpeg h k = refl
one_container file jpeg (bmff b) h k = absurd (never_both file h k.0)
one_container file (bmff a) jpeg h k = absurd (never_both file k h.0)
one_container file (bmff a) (bmff b) h k = ap bmff (roots_once file a b h.1 k.1)

-- a file that begins with the two bytes of a BMFF file, and with a box of its type, is one
pub same_media : (f g : List ℕ) → take 2 f ≡ take 2 g → is_bmff g ≡ true → begins_bmff f ≡ true → is_bmff f ≡ true
same_media f g e h k =
    let no : not (begins_jpeg g) ≡ true = (and_parts (not (begins_jpeg g)) (begins_bmff g) h).0 in
    and_from (not (begins_jpeg f)) (begins_bmff f)
    (ap (λ (x : List ℕ). not (bytes_eq x (0xFF ∷ 0xD8 ∷ []))) e ∙ no) k

-- what a BMFF file comes to by its boxes is what the file comes to
pub as_bmff : (file : List ℕ) (what : Located) → is_bmff file ≡ true → IsBmffLocated file what → IsLocated file what
as_bmff file what e h =
    subst (λ (b : Bool). MatchBool b (IsBmffLocated file what) (jpeg_store.IsLocated file what)) (sym e) h

-- what a BMFF file comes to, it comes to by its boxes
pub of_bmff : (file : List ℕ) (what : Located) → is_bmff file ≡ true → IsLocated file what → IsBmffLocated file what
of_bmff file what e h =
    subst (λ (b : Bool). MatchBool b (IsBmffLocated file what) (jpeg_store.IsLocated file what)) e h
