-- How a JPEG file begins.
use Rattle.std.proofs.Common.{◌≡◌, ◌≢◌, ℕ, ◌<◌, ◌≤◌, Bool, true, false, ◌&&◌, List, [], ◌∷◌, length, get_or, take, drop, None, refl, sym, ap, ◌∙◌, arith, eqb}
use Rattle.c2_spec.specs.Jpeg.Segments.{Segment, HasSegments, start_of_image}
use Rattle.c2_jpegseg_segments.specs.Findings.{IsBegun}
use Rattle.c2_jpegseg_segments.specs.Walks.{Walks}
use borrow.Author.Tests.{eqb-true, eq-eqb}
use Rattle.c2_lemmas.proofs.Bools.{both_true}

-- what the first two bytes are
pub media_says : (file : List ℕ) → take 2 file ≡ start_of_image
    → (2 ≤ length file) × (get_or file 0 0 ≡ 255) × (get_or file 1 0 ≡ 216)
media_says [] e = absurd (cc)
media_says (x ∷ []) e = absurd (cc)
media_says (x ∷ y ∷ rest) e = (omega arith, cc, cc)

-- a file of two bytes or more begins with its first two
front_is : (file : List ℕ) → 2 ≤ length file → get_or file 0 0 ≡ 255 → get_or file 1 0 ≡ 216
    → file ≡ 255 ∷ 216 ∷ drop 2 file
front_is [] two a b = absurd (omega arith)
front_is (x ∷ []) two a b = absurd (omega arith)
front_is (x ∷ y ∷ rest) two a b = cc

-- the walk begins
pub walk_starts : (file : List ℕ) → 2 ≤ length file → get_or file 0 0 ≡ 255 → get_or file 1 0 ≡ 216 → Walks file 2 None
walk_starts file two a b = record {
  segments = [];
  begins = record { bytes = front_is file two a b; each = tt };
  place = refl;
  inside = two;
  state = tt;
}

-- a file of fewer than two bytes is none
pub too_short : (file : List ℕ) → length file < 2 → take 2 file ≢ start_of_image
too_short file short e = let two : 2 ≤ length file = (media_says file e).0 in absurd (omega arith)

-- the test of the first two bytes
pub begun_is : (file : List ℕ) (a b : ℕ) (t : Bool) → 2 ≤ length file → a ≡ get_or file 0 0 → b ≡ get_or file 1 0
    → t ≡ (eqb a 255 && eqb b 216) → IsBegun file t
begun_is file a b true two first second is =
    let h = both_true (eqb a 255) (eqb b 216) (sym is) in
    walk_starts file two (sym first ∙ eqb-true _ _ h.0) (sym second ∙ eqb-true _ _ h.1)
begun_is file a b false two first second is = λ e.
    let says = media_says file e in
    let one : eqb a 255 ≡ true = eq-eqb _ _ (first ∙ says.1) in
    let other : eqb b 216 ≡ true = eq-eqb _ _ (second ∙ says.2) in
    cc

-- with segments, a file begins with SOI
pub begins_media : (file : List ℕ) (segments : List Segment) (rest : List ℕ) → HasSegments file segments rest
    → take 2 file ≡ start_of_image
begins_media file segments rest b = ap (take 2) b.bytes
