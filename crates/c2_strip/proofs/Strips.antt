-- What a file comes to without its store.
use Rattle.c2_container.proofs.TheLaws.{each_media_file_is_located_once}
use Rattle.std.proofs.Common.{◌≡◌, ℕ, ◌<◌, ◌^◌, Bool, true, false, List, All, Option, Some, None, Ok, Err, IfSome, IsSome, refl, sym, ap, ap₂, ◌∙◌, subst}
use Rattle.std.specs.Option.{option_map}
use Rattle.c2_base.specs.declared.media.MediaError.{MediaError}
use Rattle.c2_base.specs.declared.media.MediaError.TheVariants as media
use Rattle.c2_base.specs.declared.values.Range.{Range}
use Rattle.c2_spec.specs.Bmff.Store.{HasBmffStore, IsBmffLocated}
use Rattle.c2_spec.specs.Bmff.Writing.{is_file_end}
use Rattle.c2_spec.specs.Container.{IsLocated, begins_jpeg, is_bmff}
use Rattle.c2_spec.specs.Jpeg.Store as jpeg
use Rattle.c2_spec.specs.Located.{Located, refused, refused_by, absent, here, refusal}
use Rattle.c2_spec.specs.Reason.{media_refusal}
use Rattle.c2_spec.specs.declared.reason.Reason.{Reason}
use Rattle.c2_spec.specs.declared.reason.Reason.TheVariants as why
use Rattle.c2_spec.specs.declared.reason.Refusal.{Refusal}
use Rattle.c2_spec.proofs.Containers.{as_bmff, never_both, of_bmff}
use Rattle.c2_spec.proofs.JpegLocated.{of_jpeg}
use Rattle.c2_bmff_boxes.specs.Roots.{AreRootsOf}
use Rattle.c2_bmff_rows.specs.Rows.{rows_of}
use Rattle.c2_bmff_rows.specs.declared.row.RootBox.{RootBox}
use Rattle.c2_container.specs.Contained.{IsContainerOf, IsSaid}
use Rattle.c2_container.specs.declared.types.Contained.{Contained}
use Rattle.c2_container.specs.declared.types.Container.{Container}
use Rattle.c2_strip.specs.Endings.{is_last}
use Rattle.c2_strip.specs.Stripping.{IsMiddle, StripsTo}
use Rattle.c2_strip.specs.declared.error.Stripped.{Stripped}
use Rattle.c2_strip.specs.declared.error.Stripped.TheVariants.{Done, NoStore, Refused, Middle}
use Rattle.c2_strip.proofs.Endings.{last_is}
use Rattle.c2_lemmas.proofs.Options.{same_some}

-- ---- refusals

-- the error behind a refusal
error_of : Located → MediaError
error_of (refused why.NotMedia n) = media.NotMedia
error_of (refused why.FileTooLarge n) = media.FileTooLarge n
error_of (refused why.Truncated n) = media.Truncated n
error_of (refused why.BadMarker n) = media.BadMarker n
error_of (refused why.BadSegment n) = media.BadSegment n
error_of (refused why.BadPacket n) = media.BadPacket n
error_of (refused why.TwoStores n) = media.TwoStores n
error_of (refused why.BadBox n) = media.BadBox n
error_of (refused why.BadProvenanceBox n) = media.BadProvenanceBox n
error_of (refused why.StoreTooLarge n) = media.StoreTooLarge n
error_of (refused why.TooManyBoxes n) = media.TooManyBoxes
error_of other = media.NoMemory

-- a refusal is of one error
error_is : (e : MediaError) (l : Located) → refusal e ≡ Some l → e ≡ error_of l
unfolding error_of
error_is media.NotMedia l r = ap error_of (same_some _ l r)
error_is (media.FileTooLarge n) l r = ap error_of (same_some _ l r)
error_is (media.Truncated n) l r = ap error_of (same_some _ l r)
error_is (media.BadMarker n) l r = ap error_of (same_some _ l r)
error_is (media.BadSegment n) l r = ap error_of (same_some _ l r)
error_is (media.BadPacket n) l r = ap error_of (same_some _ l r)
error_is (media.TwoStores n) l r = ap error_of (same_some _ l r)
error_is (media.BadBox n) l r = ap error_of (same_some _ l r)
error_is (media.BadProvenanceBox n) l r = ap error_of (same_some _ l r)
error_is (media.StoreTooLarge n) l r = ap error_of (same_some _ l r)
error_is media.TooManyBoxes l r = ap error_of (same_some _ l r)
error_is media.ReadFault l r = absurd (cc (r))
error_is media.NoMemory l r = absurd (cc (r))

-- no refusal is that there is none
refused_absent : (o : Option Refusal) → option_map (refused_by {A = List ℕ}) o ≡ Some absent → ⊥
refused_absent None r = cc (r)
refused_absent (Some x) r = cc (r)

-- no error is refused as a file without a store
no_absent : (e : MediaError) → refusal e ≡ Some absent → ⊥
no_absent e r = refused_absent (media_refusal e) r

-- no refusal is a store
refused_here : (start len : ℕ) (store : List ℕ) (o : Option Refusal)
    → option_map refused_by o ≡ Some (here start len store) → ⊥
refused_here start len store None r = cc (r)
refused_here start len store (Some x) r = cc (r)

-- no error is refused as a file with a store
no_here : (start len : ℕ) (store : List ℕ) (e : MediaError) → refusal e ≡ Some (here start len store) → ⊥
no_here start len store e r = refused_here start len store (media_refusal e) r

-- ---- one thing at most

-- a file whose box stands in the middle has its store there
middle_located : (file : List ℕ) (at : ℕ) (m : IsMiddle file at) → IsLocated file (here at m.len m.store)
middle_located file at m = as_bmff file (here at m.len m.store) m.is m.has

-- a range by its numbers
same_range : (a b : Range) → a.start ≡ b.start → a.length ≡ b.length → a ≡ b
same_range a b s l = ap₂ (λ (x y : ℕ). let r : Range = record { start = x; length = y } in r) s l

-- starts of one store
start_of : Located → ℕ
start_of (refused r n) = 0
start_of absent = 0
start_of (here s l t) = s

-- the length of the range of one store
len_of : Located → ℕ
len_of (refused r n) = 0
len_of absent = 0
len_of (here s l t) = l

-- a file with a store isn't refused
stored_refused : (file : List ℕ) (start len : ℕ) (store : List ℕ) (what : Located) (e : MediaError)
    → IsLocated file (here start len store) → IsLocated file what → refusal e ≡ Some what → ⊥
stored_refused file start len store what e h k r =
    no_here start len store e (r ∙ ap Some (each_media_file_is_located_once file what (here start len store) k h))

-- a file without a store isn't refused
absent_refused : (file : List ℕ) (what : Located) (e : MediaError) → IsLocated file absent → IsLocated file what
    → refusal e ≡ Some what → ⊥
absent_refused file what e h k r = no_absent e (r ∙ ap Some (each_media_file_is_located_once file what absent k h))

-- a store is one
one_start : (file : List ℕ) (s t l m : ℕ) (x y : List ℕ) → IsLocated file (here s l x) → IsLocated file (here t m y)
    → s ≡ t
unfolding start_of
one_start file s t l m x y h k = ap start_of (each_media_file_is_located_once file (here s l x) (here t m y) h k)

one_len : (file : List ℕ) (s t l m : ℕ) (x y : List ℕ) → IsLocated file (here s l x) → IsLocated file (here t m y)
    → l ≡ m
unfolding len_of
one_len file s t l m x y h k = ap len_of (each_media_file_is_located_once file (here s l x) (here t m y) h k)

-- a store or none
stored_absent : (file : List ℕ) (s l : ℕ) (x : List ℕ) → IsLocated file (here s l x) → IsLocated file absent → ⊥
stored_absent file s l x h k = let e = each_media_file_is_located_once file (here s l x) absent h k in cc (e)

-- the whole range isn't cut out of the middle
done_middle : (file : List ℕ) (range : Range) (at : ℕ) → StripsTo file (Done range) → IsMiddle file at → ⊥
done_middle file range at h m =
    let same : range.start ≡ at =
    one_start file range.start at range.length m.len h.0.0 m.store h.0.1 (middle_located file at m) in
    h.1 (subst (IsMiddle file) (sym same) m)

-- a file comes to one thing at most without its store
pub one_stripped : (file : List ℕ) (a b : Stripped) → StripsTo file a → StripsTo file b → a ≡ b
one_stripped file (Done r) (Done s) h k =
    ap Done
    (same_range r s (one_start file r.start s.start r.length s.length h.0.0 k.0.0 h.0.1 k.0.1) (one_len file r.start s.start r.length s.length h.0.0 k.0.0 h.0.1 k.0.1))
one_stripped file (Done r) NoStore h k = absurd (stored_absent file r.start r.length h.0.0 h.0.1 k)
one_stripped file (Done r) (Refused e) h k = absurd (stored_refused file r.start r.length h.0.0 k.0 e h.0.1 k.1 k.2)
one_stripped file (Done r) (Middle at) h k = absurd (done_middle file r at h k)
one_stripped file NoStore (Done s) h k = absurd (stored_absent file s.start s.length k.0.0 k.0.1 h)
one_stripped file NoStore NoStore h k = refl
one_stripped file NoStore (Refused e) h k = absurd (absent_refused file k.0 e h k.1 k.2)
one_stripped file NoStore (Middle at) h k = absurd (stored_absent file at k.len k.store (middle_located file at k) h)
one_stripped file (Refused e) (Done s) h k = absurd (stored_refused file s.start s.length k.0.0 h.0 e k.0.1 h.1 h.2)
one_stripped file (Refused e) NoStore h k = absurd (absent_refused file h.0 e k h.1 h.2)
one_stripped file (Refused e) (Refused f) h k =
    ap Refused
    (error_is e h.0 h.2 ∙ ap error_of (each_media_file_is_located_once file h.0 k.0 h.1 k.1) ∙ sym (error_is f k.0 k.2))
one_stripped file (Refused e) (Middle at) h k =
    absurd (stored_refused file at k.len k.store h.0 e (middle_located file at k) h.1 h.2)
one_stripped file (Middle at) (Done s) h k = absurd (done_middle file s at k h)
one_stripped file (Middle at) NoStore h k = absurd (stored_absent file at h.len h.store (middle_located file at h) k)
one_stripped file (Middle at) (Refused e) h k =
    absurd (stored_refused file at h.len h.store k.0 e (middle_located file at h) k.1 k.2)
one_stripped file (Middle at) (Middle to) h k =
    ap Middle (one_start file at to h.len k.len h.store k.store (middle_located file at h) (middle_located file to k))

-- ---- what was located

-- a file whose rows end with the box of its store doesn't have it in the middle
not_middle : (file : List ℕ) (rows : List RootBox) (range : Range) (store : List ℕ) → AreRootsOf file rows
    → IsLocated file (here range.start range.length store) → is_last range rows ≡ true → IsMiddle file range.start → ⊥
not_middle file rows range store r h last m =
    let size : range.length ≡ m.len =
    one_len file range.start range.start range.length m.len store m.store h (middle_located file range.start m) in
    let its : Range = record { start = range.start; length = m.len } in
    let same : range ≡ its = same_range range its refl size in
    let ends : is_last its rows ≡ is_file_end m.has.holds.after = last_is file rows its m.store r m.has in
    let bad : true ≡ false = sym last ∙ ap (λ (x : Range). is_last x rows) same ∙ ends ∙ m.among in
    cc (bad)

-- a JPEG has no store in the middle of boxes
pub jpeg_done : (file : List ℕ) (range : Range) (store : List ℕ) → begins_jpeg file ≡ true
    → IsLocated file (here range.start range.length store) → StripsTo file (Done range)
jpeg_done file range store begins h = ((store, h), λ m. never_both file begins m.is)

-- a BMFF file whose rows end with its store's box doesn't have the store in the middle of boxes
pub boxes_done : (file : List ℕ) (rows : List RootBox) (range : Range) (store : List ℕ) → AreRootsOf file rows
    → IsLocated file (here range.start range.length store) → is_last range rows ≡ true → StripsTo file (Done range)
boxes_done file rows range store r h last = ((store, h), not_middle file rows range store r h last)

-- another has
pub boxes_middle : (file : List ℕ) (rows : List RootBox) (range : Range) (store : List ℕ) → is_bmff file ≡ true
    → AreRootsOf file rows → IsLocated file (here range.start range.length store) → is_last range rows ≡ false
    → IsMiddle file range.start
boxes_middle file rows range store is r h last =
    let has : HasBmffStore file range.start range.length store =
    of_bmff file (here range.start range.length store) is h in
    record
    { is = is; len = range.length; store = store; has = has; among = sym (last_is file rows range store r has) ∙ last }

-- ---- and to something

-- a refusal has an error
refused_error : (file : List ℕ) (reason : Reason) (n : ℕ) → IsLocated file (refused reason n)
    → (e : MediaError) × (refusal e ≡ Some (refused reason n))
refused_error file reason n h = by (is_bmff file) refl
  where
    by : (b : Bool) → is_bmff file ≡ b → (e : MediaError) × (refusal e ≡ Some (refused reason n))
    by true e = let l : IsBmffLocated file (refused reason n) = of_bmff file (refused reason n) e h in (l.0, l.2)
    by false e = let l : jpeg.IsLocated file (refused reason n) = of_jpeg file (refused reason n) e h in (l.0, l.2)

-- a file with a store has an answer
stored_strips : (file : List ℕ) (start len : ℕ) (store : List ℕ) → IsLocated file (here start len store)
    → (a : Stripped) × StripsTo file a
stored_strips file start len store h = by (is_bmff file) refl
  where
    range : Range
    range = record { start = start; length = len }

    by : (b : Bool) → is_bmff file ≡ b → (a : Stripped) × StripsTo file a
    by false e = (Done range, ((store, h), λ m. let bad : true ≡ false = sym m.is ∙ e in cc (bad)))
    by true e =
        let has : HasBmffStore file start len store = of_bmff file (here start len store) e h in
        let rows : List RootBox = rows_of has.roots in
        let are : AreRootsOf file rows = record { boxes = has.roots; has_roots = has.has_roots; are = refl } in
        where_it_is (is_last range rows) rows are refl
      where
        where_it_is : (t : Bool) (rows : List RootBox) → AreRootsOf file rows → is_last range rows ≡ t
            → (a : Stripped) × StripsTo file a
        where_it_is true rows are last = (Done range, boxes_done file rows range store are h last)
        where_it_is false rows are last = (Middle start, boxes_middle file rows range store e are h last)

-- each file comes to something without its store
pub each_stripped : ((file : List ℕ) → All (λ b. b < 2 ^ 8) file → (what : Located) × IsLocated file what)
    → (file : List ℕ) → All (λ b. b < 2 ^ 8) file → (a : Stripped) × StripsTo file a
each_stripped each file bytes = let l = each file bytes in by l.0 l.1
  where
    by : (what : Located) → IsLocated file what → (a : Stripped) × StripsTo file a
    by (refused reason n) h = let e = refused_error file reason n h in (Refused e.0, (refused reason n, h, e.1))
    by absent h = (NoStore, h)
    by (here start len store) h = stored_strips file start len store h

-- ---- what is as_located of a file

-- the container of a file that was searched is the file's
pub said_container : (file : List ℕ) (c : Contained) (x : Container) → IsSaid file (Ok c) → c.container ≡ x
    → IsContainerOf file x
said_container file c x h is = subst (IsContainerOf file) is h.container

-- a refusal
pub said_refused : (file : List ℕ) (e : MediaError) → IsSaid file (Err e) → IsSome (refusal e)
    → StripsTo file (Refused e)
said_refused file e h some = by (refusal e) refl some
  where
    by : (o : Option Located) → refusal e ≡ o → IsSome o → StripsTo file (Refused e)
    by None is some = absurd (cc (some))
    by (Some what) is some = (what, subst (λ (o : Option Located). IfSome o (IsLocated file)) is h.located, is)
