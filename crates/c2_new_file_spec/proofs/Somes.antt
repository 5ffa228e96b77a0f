-- A media file has a place for a new store, and something is left of it without an older one.
use Rattle.c2_jpegseg_segments.proofs.TheLaws.{place_and_number_are_one_each}
use Rattle.std.proofs.Common.{◌≡◌, ℕ, Bool, true, false, List, refl, sym, ap, ap₂, ◌∙◌, subst}
use Rattle.std.specs.Bool.{MatchBool}
use Rattle.std.specs.List.{flat_map}
use Rattle.c2_spec.specs.Bmff.Boxes.{Box, HasRoots, box_bytes}
use Rattle.c2_spec.specs.Bmff.Store.{HasBmffStore, HasNoBmffStore}
use Rattle.c2_spec.specs.Bmff.Writing.{base_roots, without}
use Rattle.c2_spec.specs.Container.{IsLocated, is_bmff}
use Rattle.c2_spec.specs.Jpeg.Places.{IsOfSegments}
use Rattle.c2_spec.specs.Jpeg.Segments.{Segment}
use Rattle.c2_spec.specs.Jpeg.Store as jpeg
use Rattle.c2_spec.specs.Jpeg.Store.{NoneBegins}
use Rattle.c2_spec.specs.Jumbf.Tree.{Tree}
use Rattle.c2_spec.specs.Located.{Located, Opening, absent, here, refused}
use Rattle.c2_spec.specs.PutIn.{taken_out}
use Rattle.c2_rules.specs.Opened.{IsBoxTree, IsManifestStore, IsManifestTree, IsOpened, Opens}
use Rattle.c2_rules.proofs.JpegMedia.{no_bmff}
use Rattle.c2_bmff_insert_spec.proofs.TheLaws.{a_base_has_no_store_none}
use Rattle.c2_new_file_spec.specs.Films.{AreOthers}
use Rattle.c2_new_file_spec.proofs.Media.{base_media}
use Rattle.c2_new_file_spec.proofs.ParentLaws.{a_base_has_no_store}
use Rattle.c2_new_file_spec.specs.Bases.{IsLeftOfBoxes}
use Rattle.c2_new_file_spec.specs.Laws.{FreshHasPlace, LeftHasContainer, LeftHasPlace, SomeLeft}
use Rattle.c2_new_file_spec.specs.Places.{IsFreePlace, Place, in_boxes, in_segments}
use Rattle.c2_rules.proofs.OpenedStore.{located_absent}

-- ---- a place

-- a file of segments without a store has a place for one
of_segments : (base : List ℕ) (segments : List Segment) → IsOfSegments base segments → NoneBegins segments
    → (p : Place) × IsFreePlace base p
of_segments base segments is none =
    let number = place_and_number_are_one_each segments in
    (in_segments segments number.0, record { is = (no_bmff base segments is.rest is.begins, is, number.1); free = none })

-- a file of root boxes without a store has a place for one
of_boxes : (base : List ℕ) (roots : List Box) → is_bmff base ≡ true → HasRoots base roots → AreOthers roots
    → (p : Place) × IsFreePlace base p
of_boxes base roots film has others = (in_boxes roots, record { is = (film, has); free = others })

-- ---- how a media file is located

-- a file has a store in a range where it is opened so
pub located_here : (l : Located) (start len : ℕ) (t : Tree) → Opens IsManifestStore l (here start len t)
    → (store : List ℕ) × (l ≡ here start len store)
located_here (refused reason number) start len t h = absurd (cc (h))
located_here absent start len t h = absurd (cc (h))
located_here (here at n store) start len t h = (store, by h.0 h.1 h.2)
  where
    by : (tree : Opening Tree) → IsBoxTree at n store tree → Opens IsManifestTree tree (here start len t)
        → here at n store ≡ here start len store
    by (refused reason number) a b = absurd (cc (b))
    by absent a b = absurd a
    by (here place count u) a b =
        let begin : at ≡ start = cc (a.1, b.1) in
        let size : n ≡ len = cc (a.1, b.1) in
        ap₂ (λ (x y : ℕ). here x y store) begin size

-- a store of a media file, by its container
is_stored : (media : List ℕ) (start len : ℕ) (t : Tree) → IsOpened media (here start len t)
    → (store : List ℕ) × MatchBool (is_bmff media) (HasBmffStore media start len store) (jpeg.HasJpegStore media start len store)
is_stored media start len t o =
    let at = located_here o.0 start len t o.2 in
    (at.0, subst (IsLocated media) at.1 o.1)

-- ---- places

-- a media file without a store has a place for one
pub fresh_place : FreshHasPlace
fresh_place media o = go (is_bmff media) refl (subst (IsLocated media) (located_absent o.0 o.2) o.1)
  where
    go : (t : Bool) → is_bmff media ≡ t → MatchBool t (HasNoBmffStore media) (jpeg.HasNoJpegStore media)
        → (p : Place) × IsFreePlace media p
    go true is h = of_boxes media h.roots is h.has_roots h.none
    go false is h =
        of_segments media h.segments (record { fits = h.fits; rest = h.rest; begins = h.begins; ends = h.ends }) h.none

-- the base of a BMFF file with a store
base_of : (media : List ℕ) (start len : ℕ) (store : List ℕ) → HasBmffStore media start len store
    → (base : List ℕ) × IsLeftOfBoxes media base
base_of media start len store h =
    let s = h.holds in
    let roots : List Box = base_roots s.before s.holder s.after in
    (flat_map box_bytes roots, (roots, record { boxes = h.roots; has_roots = h.has_roots; are = without start len store s refl; bytes = refl }))

-- something is left of a media file with a store
pub some_left : SomeLeft
some_left media start len t o = go (is_bmff media) (is_stored media start len t o)
  where
    go : (b : Bool)
        → ((store : List ℕ) × MatchBool b (HasBmffStore media start len store) (jpeg.HasJpegStore media start len store))
        → (base : List ℕ) × MatchBool b (IsLeftOfBoxes media base) (base ≡ taken_out start len media)
    go true h = base_of media start len h.0 h.1
    go false h = (taken_out start len media, refl)

-- what is left has the container that the file had
pub left_container : LeftHasContainer
left_container media start len t base o left = go (is_bmff media) refl (is_stored media start len t o) left
  where
    go : (b : Bool) → is_bmff media ≡ b
        → ((store : List ℕ) × MatchBool b (HasBmffStore media start len store) (jpeg.HasJpegStore media start len store))
        → MatchBool b (IsLeftOfBoxes media base) (base ≡ taken_out start len media)
        → is_bmff base ≡ is_bmff media
    go true is h k = base_media media base k.0 k.1 (a_base_has_no_store_none media base k.0 k.1).0 is ∙ sym is
    go false is h k =
        let free = a_base_has_no_store media start len h.0 h.1 in
        ap is_bmff k ∙ no_bmff (taken_out start len media) free.segments free.is_of.rest free.is_of.begins ∙ sym is

-- what is left of a media file with a store has a place for another
pub left_place : LeftHasPlace
left_place media start len t base o left = go (is_bmff media) refl (is_stored media start len t o) left
  where
    go : (b : Bool) → is_bmff media ≡ b
        → ((store : List ℕ) × MatchBool b (HasBmffStore media start len store) (jpeg.HasJpegStore media start len store))
        → MatchBool b (IsLeftOfBoxes media base) (base ≡ taken_out start len media)
        → (p : Place) × IsFreePlace base p
    go true is h k =
        let has = a_base_has_no_store_none media base k.0 k.1 in
        of_boxes base k.0 (base_media media base k.0 k.1 has.0 is) has.0 has.1
    go false is h k =
        let free = a_base_has_no_store media start len h.0 h.1 in
        subst (λ (b : List ℕ). (p : Place) × IsFreePlace b p) (sym k)
        (of_segments (taken_out start len media) free.segments free.is_of free.none)
