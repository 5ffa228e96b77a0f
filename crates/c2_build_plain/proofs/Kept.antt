-- What a build keeps of its media: the bytes outside the embedded range, in order.
use Rattle.std.proofs.Common.{◌≡◌, ℕ, ◌+◌, Bool, true, false, List, [], ◌∷◌, ◌++◌, length, take, drop, cond, refl, sym, ap, ap₂, ◌∙◌, subst}
use Rattle.std.proofs.lemmas.List.{take_at, drop_at, drop-drop}
use Rattle.std.specs.Bool.{MatchBool}
use Rattle.std.specs.List.{flat_map, AllByRecursion}
use Rattle.std.specs.Prelude.{Ok}
use Rattle.c2_base.specs.declared.values.Question.{Question}
use Rattle.c2_spec.specs.Bmff.Boxes.{Box, HasRoots, IsBox, box_bytes, box_len, boxes_len}
use Rattle.c2_spec.specs.Bmff.Store.{HasBmffStore, HoldsBmffStore}
use Rattle.c2_spec.specs.Bmff.Writing.{AreBaseRoots, IsBmffBase, base_roots, freed, is_file_end, same, without}
use Rattle.c2_spec.specs.Container.{IsLocated, is_bmff}
use Rattle.c2_spec.specs.Jpeg.Store as jpeg
use Rattle.c2_spec.specs.Jumbf.Tree.{Tree, tree_bytes}
use Rattle.c2_spec.specs.Located.{Located, Opening, absent, here, refused}
use Rattle.c2_spec.specs.PutIn.{taken_out}
use Rattle.c2_spec.specs.declared.digest.Alg.{Alg}
use Rattle.c2_spec.specs.declared.panel.Verdict.{Verdict}
use Rattle.c2_spec.proofs.BmffOneStore.{store_or_none, stores_once}
use Rattle.c2_spec.proofs.BmffSizes.{bytes_size}
use Rattle.c2_bmff_rows.proofs.StandLemmas.{form_boxes}
use Rattle.c2_rules.specs.CheckList.{check_list}
use Rattle.c2_rules.specs.Opened.{IsBoxTree, IsManifestStore, IsManifestTree, IsOpened, Opens}
use Rattle.c2_rules.specs.Tests.{first_failing}
use Rattle.c2_definition.specs.declared.types.Definition.{Definition}
use Rattle.c2_bmff_insert_spec.proofs.TheLaws.{a_base_has_no_store_cut}
use Rattle.c2_new_file_spec.specs.Bases.{IsLeft, IsLeftOfBoxes}
use Rattle.c2_build_refusals.specs.Stages.{IsGroundOver, IsGroundStage, IsMediaStage, MediaKind, fresh, fresh_ground, stored}
use Rattle.c2_build_plain.specs.Meeting.{IsFreedIn, IsLessStore, KeepsBytes, cut_out, made_free}
use Rattle.c2_build_refusals.specs.Refusals.{Ground, first_refusal, older_tests, redaction_tests}
use Rattle.c2_build_refusals.proofs.Passing.{ground_of, opened_here}
use Rattle.c2_bmff_insert_spec.proofs.Bases.{freed_len, is_freed}
use Rattle.c2_lemmas.proofs.Each.{each_back}
use Rattle.c2_lemmas.proofs.Stages.{unless_some_passed}
use Rattle.c2_spec.proofs.BmffShared.{parts_are}

-- ---- one box among boxes

-- what stands from that one on
behind_front : (xs : List Box) (b : Box) (ys : List Box)
    → drop (boxes_len xs) (flat_map box_bytes (xs ++ b ∷ ys)) ≡ box_bytes b ++ flat_map box_bytes ys
behind_front xs b ys =
    ap (drop (boxes_len xs)) (parts_are xs b ys)
    ∙ drop_at (flat_map box_bytes xs) (box_bytes b ++ flat_map box_bytes ys) (boxes_len xs) refl

-- a box between others stands behind the first ones
box_stands : (xs : List Box) (b : Box) (ys : List Box) (n : ℕ) → length (box_bytes b) ≡ n
    → take n (drop (boxes_len xs) (flat_map box_bytes (xs ++ b ∷ ys))) ≡ box_bytes b
box_stands xs b ys n size = ap (take n) (behind_front xs b ys) ∙ take_at (box_bytes b) (flat_map box_bytes ys) n size

-- less it, the others stay
others_stay : (xs : List Box) (b : Box) (ys : List Box) (n : ℕ) → length (box_bytes b) ≡ n
    → taken_out (boxes_len xs) n (flat_map box_bytes (xs ++ b ∷ ys)) ≡ flat_map box_bytes xs ++ flat_map box_bytes ys
others_stay xs b ys n size =
    let front : List ℕ = flat_map box_bytes xs in
    let back : List ℕ = flat_map box_bytes ys in
    let whole : List ℕ = flat_map box_bytes (xs ++ b ∷ ys) in
    ap₂ (λ (f r : List ℕ). f ++ r)
    (ap (take (boxes_len xs)) (parts_are xs b ys) ∙ take_at front (box_bytes b ++ back) (boxes_len xs) refl)
    (sym (drop-drop n (boxes_len xs) whole) ∙ ap (drop n) (behind_front xs b ys) ∙ drop_at (box_bytes b) back n size)

-- ---- a freed box

-- a file with a box freed is the other one less the box, in both
freed_keeps : (media base : List ℕ) (xs : List Box) (b : Box) (ys : List Box) → IsBox b
    → media ≡ flat_map box_bytes (xs ++ b ∷ ys) → base ≡ flat_map box_bytes (xs ++ freed b ∷ ys)
    → IsFreedIn media (boxes_len xs) (box_len b) base
freed_keeps media base xs b ys is was now =
    let size : length (box_bytes b) ≡ box_len b = bytes_size b is in
    let still : length (box_bytes (freed b)) ≡ box_len b = bytes_size (freed b) (is_freed b is) ∙ freed_len b in
    record {
      old = b;
      was = ap (λ (f : List ℕ). take (box_len b) (drop (boxes_len xs) f)) was ∙ box_stands xs b ys (box_len b) size;
      now =
          ap (λ (f : List ℕ). take (box_len b) (drop (boxes_len xs) f)) now
          ∙ box_stands xs (freed b) ys (box_len b) still;
      others = ap (taken_out (boxes_len xs) (box_len b)) now ∙ others_stay xs (freed b) ys (box_len b) still
          ∙ sym (ap (taken_out (boxes_len xs) (box_len b)) was ∙ others_stay xs b ys (box_len b) size);
    }

-- ---- the base of a BMFF file

-- where more than a last `mfra` follows it, the older box stays among the root boxes, freed
other_roots : (xs : List Box) (b : Box) (ys : List Box) → is_file_end ys ≡ false
    → base_roots xs b ys ≡ xs ++ freed b ∷ ys
other_roots xs b ys e = ap (λ (t : Bool). cond t (xs ++ ys) (xs ++ freed b ∷ ys)) e

-- the root boxes without the one that holds a store are the file less it, or have it freed
roots_keep : (media base : List ℕ) (boxes : List Box) (start len : ℕ) (store : List ℕ)
    → HasRoots media boxes
    → (h : HoldsBmffStore boxes start len store) → base ≡ flat_map box_bytes (base_roots h.before h.holder h.after)
    → IsLessStore media start len base
roots_keep media base boxes start len store r h is = by (is_file_end h.after) refl
  where
    split_boxes : AllByRecursion IsBox (h.before ++ h.holder ∷ h.after)
    split_boxes = subst (AllByRecursion IsBox) h.split (form_boxes boxes r.forms)

    made : is_file_end h.after ≡ false → IsFreedIn media start len base
    made e =
        let own : IsBox h.holder = (each_back IsBox h.before (h.holder ∷ h.after) split_boxes).0 in
        let was : media ≡ flat_map box_bytes (h.before ++ h.holder ∷ h.after) =
        r.bytes ∙ ap (flat_map box_bytes) h.split in
        let now : base ≡ flat_map box_bytes (h.before ++ freed h.holder ∷ h.after) =
        is ∙ ap (flat_map box_bytes) (other_roots h.before h.holder h.after e) in
        subst (λ (n : ℕ). IsFreedIn media n len base) (sym h.from)
        (subst (λ (n : ℕ). IsFreedIn media (boxes_len h.before) n base) (sym h.for) (freed_keeps media base h.before h.holder h.after own was now))

    by : (t : Bool) → is_file_end h.after ≡ t → IsLessStore media start len base
    by true e = cut_out (is ∙ a_base_has_no_store_cut media boxes start len store r h e)
    by false e = made_free (made e)

-- the base of a BMFF file with a store in this range is that
bmff_keeps : (media base : List ℕ) (roots : List Box) (start len : ℕ) (store : List ℕ)
    → HasBmffStore media start len store
    → IsBmffBase media base roots → IsLessStore media start len base
bmff_keeps media base roots start len store has h = by h.are
  where
    by : AreBaseRoots h.boxes roots → IsLessStore media start len base
    by (same others e) =
        absurd
        (store_or_none media start len store has (record { roots = h.boxes; has_roots = h.has_roots; none = others }))
    by (without s n text holds e) =
        let other : HasBmffStore media s n text = record { roots = h.boxes; has_roots = h.has_roots; holds = holds } in
        let once = stores_once media s n start len text store other has in
        let left = roots_keep media base h.boxes s n text h.has_roots holds (h.bytes ∙ ap (flat_map box_bytes) e) in
        subst (λ (x : ℕ). IsLessStore media x len base) once.0
        (subst (λ (x : ℕ). IsLessStore media s x base) once.1 left)

-- ---- the media

-- bytes that are opened as a store of manifests in a range stand in that range, and spell it
pub located_here : (l : Located) (start len : ℕ) (t : Tree) → Opens IsManifestStore l (here start len t)
    → (store : List ℕ) × ((l ≡ here start len store) × (store ≡ tree_bytes t))
located_here (refused reason number) start len t h = absurd (cc (h))
located_here absent start len t h = absurd (cc (h))
located_here (here at n store) start len t h = (store, by h.0 h.1 h.2)
  where
    by : (tree : Opening Tree) → IsBoxTree at n store tree → Opens IsManifestTree tree (here start len t)
        → (here at n store ≡ here start len store) × (store ≡ tree_bytes t)
    by (refused reason number) a b = absurd (cc (b))
    by absent a b = absurd a
    by (here place count u) a b =
        let begin : at ≡ start = cc (a.1, b.1) in
        let size : n ≡ len = cc (a.1, b.1) in
        let tree : u ≡ t = cc (b.1) in
        (ap₂ (λ (x y : ℕ). here x y store) begin size, a.0.whole ∙ ap tree_bytes tree)

-- what is left of a media file keeps the bytes outside the range of its store
left_keeps : (media : List ℕ) (start len : ℕ) (t : Tree) (base : List ℕ)
    → IsOpened media (here start len t)
    → IsLeft media start len base → IsLessStore media start len base
left_keeps media start len t base o left =
    let at = located_here o.0 start len t o.2 in
    by at.0 (is_bmff media) (subst (IsLocated media) at.1.0 o.1) left
  where
    by : (store : List ℕ) (b : Bool)
        → MatchBool b (HasBmffStore media start len store) (jpeg.HasJpegStore media start len store)
        → MatchBool b (IsLeftOfBoxes media base) (base ≡ taken_out start len media) → IsLessStore media start len base
    by store true h k = bmff_keeps media base k.0 start len store h k.1
    by store false h k = cut_out k

-- what a new file is built over keeps the bytes of its media
pub ground_keeps :
    (hash : Alg → List ℕ → List ℕ) (said : Question → Verdict) (media : List ℕ) (d : Definition)
    (kind : MediaKind) (g : Ground) → IsMediaStage media (Ok kind) → IsGroundStage hash said media d kind (Ok g)
    → KeepsBytes media kind g.base
ground_keeps hash said media d fresh g m h =
    let is = unless_some_passed (first_refusal (redaction_tests d [])) (λ r. r ≡ Ok (fresh_ground media d)) g h in
    let same_ground : fresh_ground media d ≡ g = cc (is.1) in
    ap (λ (x : Ground). x.base) (sym same_ground)
ground_keeps hash said media d (stored start len t) g m h =
    let tests = first_refusal (older_tests d h.0.readings (first_failing (check_list hash said h.0))) in
    let is = unless_some_passed tests (IsGroundOver media d start len t h.0.readings) g h.2 in
    let same_ground : ground_of is.1.2.0 is.1.0 (length h.0.readings + 1) ≡ g = cc (is.1.2.2) in
    let kept = left_keeps media start len t is.1.2.0 (opened_here media start len t m) is.1.2.1 in
    subst (λ (x : Ground). IsLessStore media start len x.base) same_ground kept
