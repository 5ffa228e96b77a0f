-- Worked covers of a BMFF file of two boxes, `ftyp` with 16 bytes and `mdat` with 9.
use Rattle.std.proofs.Common.{◌≡◌, ℕ, ◌+◌, ◌<◌, nat_lt, nat_le, true, ◌||◌, List, [], ◌∷◌, ◌++◌, Contains, None, codes, refl, sym, subst, inl, inr, arith}
use Rattle.std.proofs.lemmas.Bool.Decides.{Decides-ltb}
use Rattle.std.specs.List.{range_with_len}
use Rattle.c2_spec.specs.Bmff.Boxes.{Box, short, long, to_end, box_len}
use Rattle.c2_spec.specs.Bmff.Hash.{Exclusion, IsExcludedBy, IsExcluded}
use Rattle.c2_spec.specs.Bmff.Paths.{PathStep, PlacedBox, placed_from, last}
use Rattle.c2_spec.specs.Bmff.Cover.{IsBmffCover, bmff_text}
use Rattle.c2_spec.specs.Cover.{covered_count}
use Rattle.c2_rules.proofs.ListLemmas.{contains_none, contains_cons, contains_head}
use Rattle.c2_spec.proofs.BmffShared.{alone}

-- a box of type `ftyp` with 8 bytes of payload
abbrev ftyp_box : Box
ftyp_box = record { form = short; kind = codes "ftyp"; payload = 0x69 ∷ 0x73 ∷ 0x6F ∷ 0x6D ∷ 0 ∷ 0 ∷ 0 ∷ 0 ∷ [] }

-- a box of type `mdat` with one byte of payload
abbrev mdat_box : Box
mdat_box = record { form = short; kind = codes "mdat"; payload = 0x41 ∷ [] }

-- a file of the two
abbrev two_boxes : List Box
two_boxes = ftyp_box ∷ mdat_box ∷ []

-- the place of the second box, 16, in 8 bytes
abbrev offset : List ℕ
offset = 0 ∷ 0 ∷ 0 ∷ 0 ∷ 0 ∷ 0 ∷ 0 ∷ 0x10 ∷ []

-- ---- the covered text, by which positions are excluded

-- without the first 16 bytes the text is the second box's offset and bytes
without_ftyp : bmff_text (λ i. nat_lt i 16) two_boxes ≡ offset ++ (0 ∷ 0 ∷ 0 ∷ 9 ∷ 0x6D ∷ 0x64 ∷ 0x61 ∷ 0x74 ∷ 0x41 ∷ [])
without_ftyp = refl

-- a box that is excluded in part keeps its offset
without_payload : bmff_text (λ i. nat_lt i 16 || nat_le 24 i) two_boxes ≡ offset ++ (0 ∷ 0 ∷ 0 ∷ 9 ∷ 0x6D ∷ 0x64 ∷ 0x61 ∷ 0x74 ∷ [])
without_payload = refl

-- without all 25 bytes the text is empty
without_boxes : bmff_text (λ i. nat_lt i 25) two_boxes ≡ []
without_boxes = refl

-- the header's own bytes are covered, however it says the size
wide_text : bmff_text (λ i. nat_lt i 16) (ftyp_box ∷ record { form = long; kind = codes "mdat"; payload = 0x41 ∷ [] } ∷ []) ≡ offset ++ (0 ∷ 0 ∷ 0 ∷ 1 ∷ 0x6D ∷ 0x64 ∷ 0x61 ∷ 0x74 ∷ 0 ∷ 0 ∷ 0 ∷ 0 ∷ 0 ∷ 0 ∷ 0 ∷ 0x11 ∷ 0x41 ∷ [])
wide_text = refl

-- a box that runs to the end has the header that it was read with
open_text : bmff_text (λ i. nat_lt i 16) (ftyp_box ∷ record { form = to_end; kind = codes "mdat"; payload = 0x41 ∷ [] } ∷ []) ≡ offset ++ (0 ∷ 0 ∷ 0 ∷ 0 ∷ 0x6D ∷ 0x64 ∷ 0x61 ∷ 0x74 ∷ 0x41 ∷ [])
open_text = refl

-- ---- which positions an exclusion excludes

-- equal lists of steps begin with the same step
head_is : (s t : PathStep) (ss : List PathStep) → s ∷ ss ≡ t ∷ [] → s ≡ t
head_is s t ss e = cc (e)

-- what a list of one member contains is that member
only_one : {X : Type 0} (x y : X) → Contains (x ∷ []) y → x ≡ y
only_one x y c = elim (contains_cons x y [] c) [
  | inl e ↦ e
  | inr e ↦ absurd (contains_none y e)
]

-- an exclusion of `/ftyp` in full
abbrev ftyp_entry : Exclusion
ftyp_entry = record { path = record { kind = codes "ftyp"; nth = None } ∷ []; length = None; tests = []; subset = None }

-- the first box with its place
abbrev ftyp_placed : PlacedBox
ftyp_placed = record { at = 0; box = ftyp_box }

-- each position below 16 is excluded by it
holds_below : (i : ℕ) → nat_lt i 16 ≡ true → IsExcluded two_boxes (ftyp_entry ∷ []) i
holds_below i e = record {
  exclusion = ftyp_entry;
  is_one = contains_head ftyp_entry [];
  excludes =
      record
      { at = ftyp_placed; on_path = last _ _ _ (contains_head ftyp_placed []); sized = tt; tests = tt; from = omega arith; to = (Decides-ltb i 16).0 e; part = refl };
}

-- no other position is excluded by it
only_below : (i : ℕ) → IsExcluded two_boxes (ftyp_entry ∷ []) i → nat_lt i 16 ≡ true
only_below i h =
    let entry : ftyp_entry ≡ h.exclusion = only_one ftyp_entry h.exclusion h.is_one in
    let by : IsExcludedBy two_boxes ftyp_entry i =
    subst (λ (x : Exclusion). IsExcludedBy two_boxes x i) (sym entry) h.excludes in
    let box : ftyp_placed ≡ by.at =
    only_one ftyp_placed by.at
    (alone (placed_from 0 two_boxes) ftyp_entry.path by.at by.on_path (record { kind = codes "ftyp"; nth = None }) refl) in
    (Decides-ltb i 16).1 (subst (λ (b : PlacedBox). i < b.at + box_len b.box) (sym box) by.to)

-- the entry `/ftyp` covers these bytes, and 9 positions; 16 excluded ones lie outside a range behind the file
pub ftyp_excluded : IsBmffCover two_boxes 25 (ftyp_entry ∷ []) (range_with_len 0 16) (offset ++ (0 ∷ 0 ∷ 0 ∷ 9 ∷ 0x6D ∷ 0x64 ∷ 0x61 ∷ 0x74 ∷ 0x41 ∷ []))
ftyp_excluded =
    record { excludes = λ i. nat_lt i 16; exactly = λ i. (holds_below i, only_below i); positions = refl; bytes = refl }

-- of 25 positions 9 are covered where the first 16 are excluded
nine_left : covered_count (range_with_len 0 16) 25 ≡ 9
nine_left = refl
