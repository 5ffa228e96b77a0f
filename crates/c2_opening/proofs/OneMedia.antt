-- A file has one container at most, and is media in one way at most.
use Rattle.std.proofs.Common.{◌≡◌, refl, ℕ, Bool, true, false, List, subst}
use Rattle.std.specs.Bool.{MatchBool}
use Rattle.c2_spec.specs.Bmff.Store.{HasBmffStore, IsBmffLocated}
use Rattle.c2_spec.specs.Container.{Container, jpeg, bmff, IsContainer, IsLocated, is_bmff}
use Rattle.c2_spec.specs.Jpeg.Store as jpeg_store
use Rattle.c2_spec.specs.Jpeg.Store.{HasJpegStore}
use Rattle.c2_spec.specs.Located.{here}
use Rattle.c2_rules.specs.Binding.{Media, IsMedia}
use Rattle.c2_rules.proofs.JpegMedia.{begins}
use Rattle.c2_container.specs.Contained.{IsContainerOf}
use Rattle.c2_container.specs.declared.types.Container as types
use Rattle.c2_container.specs.declared.types.Container.TheVariants.{Jpeg, Bmff}
use Rattle.c2_opening.specs.Media.{IsMediaOf, media}
use Rattle.c2_rules.proofs.OneMedia.{media_once}
use Rattle.c2_spec.proofs.JpegLocated.{of_jpeg}

-- as media it has the container that was read
pub contained_media : (file : List ℕ) (c : types.Container) (m : Media) → IsContainerOf file c → IsMedia file m
    → IsMediaOf file c m
contained_media file Jpeg m h is = media_once file m (media file jpeg) is (record { bytes = refl; container = h })
contained_media file (Bmff rows) m h is =
    (h.1.boxes, h.1.has_roots, h.1.are, media_once file m (media file (bmff h.1.boxes)) is (record { bytes = refl; container = (h.0, h.1.has_roots) }))

-- the store of a BMFF file is that of its boxes
stored_boxes : (file : List ℕ) (start len : ℕ) (store : List ℕ) → is_bmff file ≡ true
    → IsLocated file (here start len store) → HasBmffStore file start len store
stored_boxes file start len store e h =
    subst
    (λ (b : Bool). MatchBool b (IsBmffLocated file (here start len store)) (jpeg_store.IsLocated file (here start len store)))
    e h

-- a file with a store has a container
pub store_container : (file : List ℕ) (start len : ℕ) (store : List ℕ) → IsLocated file (here start len store)
    → (c : Container) × IsContainer file c
store_container file start len store h = by (is_bmff file) refl
  where
    by : (b : Bool) → is_bmff file ≡ b → (c : Container) × IsContainer file c
    by true e = let s : HasBmffStore file start len store = stored_boxes file start len store e h in (bmff s.roots, (e, s.has_roots))
    by false e = let s : HasJpegStore file start len store = of_jpeg file (here start len store) e h in (jpeg, begins file s.segments s.rest s.begins)
