-- What a file is as_located to be, by its container.
use Rattle.std.proofs.Common.{◌≡◌, ℕ, ◌<◌, Bool, true, false, not, ◌&&◌, List, length, take, drop, Option, Some, None, Ok, Err, IfSome, refl, sym, ap, ap₂, ◌∙◌, arith, subst}
use Rattle.std.proofs.lemmas.List.{drop-take, length-drop, length-take, take-take}
use Rattle.std.proofs.lemmas.Slice.Eq.{bytes_eq-Decides}
use Rattle.std.specs.Str.{bytes_eq}
use Rattle.c2_base.specs.declared.media.Found.{Found}
use Rattle.c2_base.specs.declared.media.MediaError.{MediaError}
use Rattle.c2_base.specs.declared.media.MediaError.TheVariants as media
use Rattle.c2_bmff_boxes.specs.Causes.{OrBmffFault}
use Rattle.c2_bmff_boxes.specs.Roots.{AreRootsOf}
use Rattle.c2_bmff_boxes.specs.Search.{IsStoreOr}
use Rattle.c2_bmff_rows.specs.declared.row.RootBox.{RootBox}
use Rattle.c2_bmff_rows.specs.Faults.{FirstRootsFault}
use Rattle.c2_bmff_rows.proofs.Faults.{first_of_all}
use Rattle.c2_spec.specs.Bmff.Boxes.{begins_bmff, ftyp_kind}
use Rattle.c2_spec.specs.Bmff.Store.{FirstBmffFault, IsBmffLocated, provenance}
use Rattle.c2_spec.specs.Container.{IsLocated, begins_jpeg, is_bmff}
use Rattle.c2_spec.specs.Jpeg.Segments.{start_of_image}
use Rattle.c2_spec.specs.Jpeg.Store as jpeg
use Rattle.c2_spec.specs.Located.{Located, absent, here, refusal, as_located}
use Rattle.c2_jpegseg_survey.specs.Surveys.{HasPacketPoint, less_found}
use Rattle.c2_jpegseg_survey.specs.declared.surveying.Surveyed.{Surveyed}
use Rattle.c2_container.specs.Contained.{IsSaid}
use Rattle.c2_container.specs.declared.types.Container.TheVariants.{Bmff, Jpeg}
use Rattle.c2_spec.proofs.Containers.{as_bmff, of_bmff}
use Rattle.c2_lemmas.proofs.Bools.{and_false}
use Rattle.c2_spec.proofs.BmffOneOutcome.{one_bmff_located}
use Rattle.c2_spec.proofs.JpegLocated.{as_jpeg, of_jpeg}

-- ---- the front of a file

-- what the first eight bytes of a file tell, the file tells
pub front_tells : (file front : List ℕ) → length front ≡ 8 → front ≡ take (length front) file
    → is_bmff front ≡ is_bmff file
front_tells file front len is =
    let first : take 2 (take 8 file) ≡ take 2 file = take-take 2 8 file (omega arith) in
    let kind : take 4 (drop 4 (take 8 file)) ≡ take 4 (drop 4 file) =
    ap (take 4) (drop-take 4 4 file) ∙ take-take 4 4 (drop 4 file) (omega arith) in
    ap is_bmff (is ∙ ap (λ (n : ℕ). take n file) len)
    ∙ ap₂ (λ (a b : List ℕ). not (bytes_eq a start_of_image) && bytes_eq b ftyp_kind) first kind

-- fewer than eight bytes begin no BMFF file
pub short_front : (file : List ℕ) → length file < 8 → is_bmff file ≡ false
short_front file few = by (begins_bmff file) refl
  where
    by : (t : Bool) → begins_bmff file ≡ t → is_bmff file ≡ false
    by true e = absurd (
        let same : take 4 (drop 4 file) ≡ ftyp_kind = (bytes_eq-Decides (take 4 (drop 4 file)) ftyp_kind).0 e in
        let four : length (take 4 (drop 4 file)) ≡ 4 = ap length same in
        omega (arith, four, few, length-take 4 (drop 4 file), length-drop 4 file))
    by false e = ap (λ (t : Bool). not (begins_jpeg file) && t) e ∙ and_false (not (begins_jpeg file))

-- ---- a JPEG file

-- what is as_located of a file as a JPEG is what it is as a container
located_as_jpeg : (file : List ℕ) (o : Option Located) → is_bmff file ≡ false → IfSome o (jpeg.IsLocated file)
    → IfSome o (IsLocated file)
located_as_jpeg file None is h = tt
located_as_jpeg file (Some l) is h = as_jpeg file l is h

-- a file that isn't refused as a JPEG begins as one
begins : (file : List ℕ) (o : Option Found) → IfSome (as_located (Ok o)) (jpeg.IsLocated file) → begins_jpeg file ≡ true
begins file None h = ap begins_jpeg h.begins.bytes
begins file (Some f) h = ap begins_jpeg h.begins.bytes

-- a JPEG that was surveyed
pub packets_said : (file : List ℕ) (s : Surveyed) → is_bmff file ≡ false
    → IfSome (as_located (Ok s.found)) (jpeg.IsLocated file)
    → ((what : Located) → jpeg.IsLocated file what → IfSome (as_located (Ok s.found)) (λ l. l ≡ what))
    → HasPacketPoint (less_found s.found file) s.point
    → IsSaid file (Ok (record { container = Jpeg; found = s.found; packets = Some s.point }))
packets_said file s is found only point = record {
  located = located_as_jpeg file (as_located (Ok s.found)) is found;
  only = λ what k. only what (of_jpeg file what is k);
  container = begins file s.found found;
  packets = point;
}

-- one that is refused
pub packets_refused : (file : List ℕ) (e : MediaError) → is_bmff file ≡ false → IfSome (refusal e) (jpeg.IsLocated file)
    → ((what : Located) → jpeg.IsLocated file what → IfSome (refusal e) (λ l. l ≡ what)) → IsSaid file (Err e)
packets_refused file e is found only =
    record
    { located = located_as_jpeg file (refusal e) is found; only = λ what k. only what (of_jpeg file what is k); container = tt; packets = tt }

-- ---- a BMFF file

-- what is as_located of a file is what it is as a container, where it is no fault
says : (file : List ℕ) (e : MediaError) (l : Located) → is_bmff file ≡ true → refusal e ≡ Some l → IsBmffLocated file l
    → IsSaid file (Err e)
says file e l is e_says h = record {
  located = subst (λ (o : Option Located). IfSome o (IsLocated file)) (sym e_says) (as_bmff file l is h);
  only =
      λ what k. subst (λ (o : Option Located). IfSome o (λ s. s ≡ what)) (sym e_says) (one_bmff_located file l what h (of_bmff file what is k));
  container = tt;
  packets = tt;
}

-- an error that says nothing of the file
silent : (file : List ℕ) (e : MediaError) → refusal e ≡ None → IsSaid file (Err e)
silent file e e_says = record {
  located = subst (λ (o : Option Located). IfSome o (IsLocated file)) (sym e_says) tt;
  only = λ what k. subst (λ (o : Option Located). IfSome o (λ s. s ≡ what)) (sym e_says) tt;
  container = tt;
  packets = tt;
}

-- the first test that fails is what is as_located of a file, unless the error says nothing of it
fault_said : (file : List ℕ) (e : MediaError) → is_bmff file ≡ true → OrBmffFault e (FirstBmffFault file e)
    → IsSaid file (Err e)
fault_said file media.NotMedia is f = says file media.NotMedia _ is refl (media.NotMedia, f, refl)
fault_said file (media.FileTooLarge n) is f = says file (media.FileTooLarge n) _ is refl (media.FileTooLarge n, f, refl)
fault_said file (media.Truncated n) is f = says file (media.Truncated n) _ is refl (media.Truncated n, f, refl)
fault_said file (media.BadMarker n) is f = says file (media.BadMarker n) _ is refl (media.BadMarker n, f, refl)
fault_said file (media.BadSegment n) is f = says file (media.BadSegment n) _ is refl (media.BadSegment n, f, refl)
fault_said file (media.BadPacket n) is f = says file (media.BadPacket n) _ is refl (media.BadPacket n, f, refl)
fault_said file (media.TwoStores n) is f = says file (media.TwoStores n) _ is refl (media.TwoStores n, f, refl)
fault_said file (media.BadBox n) is f = says file (media.BadBox n) _ is refl (media.BadBox n, f, refl)
fault_said file (media.BadProvenanceBox n) is f =
    says file (media.BadProvenanceBox n) _ is refl (media.BadProvenanceBox n, f, refl)
fault_said file (media.StoreTooLarge n) is f =
    says file (media.StoreTooLarge n) _ is refl (media.StoreTooLarge n, f, refl)
fault_said file media.TooManyBoxes is f = says file media.TooManyBoxes _ is refl (media.TooManyBoxes, f, refl)
fault_said file media.ReadFault is f = silent file media.ReadFault refl
fault_said file media.NoMemory is f = silent file media.NoMemory refl

-- what holds of an error that refuses follows from what else does
unless : {P Q : Type 0} → (e : MediaError) → (P → Q) → OrBmffFault e P → OrBmffFault e Q
unless media.NotMedia f h = f h
unless (media.FileTooLarge n) f h = f h
unless (media.Truncated n) f h = f h
unless (media.BadMarker n) f h = f h
unless (media.BadSegment n) f h = f h
unless (media.BadPacket n) f h = f h
unless (media.TwoStores n) f h = f h
unless (media.BadBox n) f h = f h
unless (media.BadProvenanceBox n) f h = f h
unless (media.StoreTooLarge n) f h = f h
unless media.TooManyBoxes f h = f h
unless media.ReadFault f h = tt
unless media.NoMemory f h = tt

-- the root boxes of a BMFF file are refused
pub roots_refused : (file : List ℕ) (e : MediaError) → is_bmff file ≡ true → OrBmffFault e (FirstRootsFault file e)
    → IsSaid file (Err e)
roots_refused file e is bad = fault_said file e is (unless e (first_of_all file e) bad)

-- the C2PA boxes of a BMFF file are refused
pub store_refused : (file : List ℕ) (rows : List RootBox) (e : MediaError) → is_bmff file ≡ true → AreRootsOf file rows
    → (AreRootsOf file rows → IsStoreOr file (Err e)) → IsSaid file (Err e)
store_refused file rows e is roots found = fault_said file e is (unless e (provenance e) (found roots))

-- a BMFF file whose boxes aren't refused has a store, or none
pub store_said : (file : List ℕ) (rows : List RootBox) (found : Option Found) → is_bmff file ≡ true
    → AreRootsOf file rows → (AreRootsOf file rows → IsStoreOr file (Ok found))
    → IsSaid file (Ok (record { container = Bmff rows; found = found; packets = None }))
store_said file rows None is roots found = let h : IsBmffLocated file absent = found roots in record {
  located = as_bmff file absent is h;
  only = λ what k. one_bmff_located file absent what h (of_bmff file what is k);
  container = (is, roots);
  packets = tt;
}
store_said file rows (Some f) is roots found = let h : IsBmffLocated file (here f.start f.length f.store) = found roots in record {
  located = as_bmff file (here f.start f.length f.store) is h;
  only = λ what k. one_bmff_located file (here f.start f.length f.store) what h (of_bmff file what is k);
  container = (is, roots);
  packets = tt;
}
