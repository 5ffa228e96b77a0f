-- The search for a store, a root box at a time.
use Rattle.std.proofs.Common.{◌≡◌, ℕ, zero, suc, ◌+◌, ◌-◌, ◌⊎◌, inl, inr, ⊎_elim, Bool, true, false, not, cond, ◌&&◌, ◌||◌, List, [], ◌∷◌, ◌++◌, length, take, drop, map, Option, Some, None, refl, sym, ap, ap₂, ◌∙◌, arith, length-append}
use Rattle.std.proofs.lemmas.List.{append_assoc, take_at}
use Rattle.std.proofs.Math.Seq.{drop-append-add, drop-append_seam}
use Rattle.std.proofs.lemmas.Grind.{flat_map-append}
use Rattle.std.specs.List.{flat_map}
use Rattle.c2_base.specs.declared.media.MediaError.{MediaError}
use Rattle.c2_base.specs.declared.media.MediaError.TheVariants.{TwoStores, BadProvenanceBox, StoreTooLarge}
use Rattle.c2_spec.specs.Bmff.Boxes.{Box, IsBox, AreBoxForms, box_bytes, box_len, boxes_len, header_bytes, header_len}
use Rattle.c2_spec.specs.Bmff.Paths.{placed_from}
use Rattle.c2_spec.specs.Bmff.Store.{provenance_fault, AllRootsPass}
use Rattle.c2_spec.proofs.BmffOneList.{first_box, other_boxes}
use Rattle.c2_bmff_rows.specs.Rows.{payload_at, row_of}
use Rattle.c2_bmff_boxes.specs.Search.{FailsBy}
use Rattle.c2_bmff_boxes.specs.declared.provenance.Part.{Part}
use Rattle.c2_bmff_boxes.specs.declared.provenance.Part.TheVariants as part
use Rattle.c2_bmff_rows.specs.declared.row.RootBox.{RootBox}
use Rattle.c2_spec.proofs.BmffSizes.{bytes_size, header_size}
use Rattle.c2_lemmas.proofs.Parts.{first_same, others_same}

-- ---- the box of a row

-- The root box of index `n`, its row, and the boxes around it.
pub record BoxAt (p : ℕ) (boxes : List Box) (n : ℕ) (r : RootBox) : Type 0 where
  pub box : Box
  pub is_box : IsBox box
  pub split : boxes ≡ take n boxes ++ box ∷ drop (suc n) boxes
  pub more : take (suc n) boxes ≡ take n boxes ++ box ∷ []
  pub row : r ≡ row_of (record { at = p + boxes_len (take n boxes); box = box })

-- behind `n` rows of root boxes, the next row is that of a box there
pub box_at : (p : ℕ) (boxes : List Box) (n : ℕ) (r : RootBox) (rs : List RootBox) → AreBoxForms boxes
    → drop n (map row_of (placed_from p boxes)) ≡ r ∷ rs → BoxAt p boxes n r
box_at p [] zero r rs f e = absurd (cc (e))
box_at p [] (suc n) r rs f e = absurd (cc (e))
box_at p (b ∷ bs) zero r rs f e = let z : p ≡ p + 0 = omega arith in record {
  box = b;
  is_box = first_box b bs f;
  split = refl;
  more = refl;
  row =
      first_same r (row_of (record { at = p; box = b })) rs _ (sym e)
      ∙ ap (λ (k : ℕ). row_of (record { at = k; box = b })) z;
}
box_at p (b ∷ bs) (suc n) r rs f e =
    let h : BoxAt (p + box_len b) bs n r = box_at (p + box_len b) bs n r rs (other_boxes b bs f) e in
    let size : boxes_len (b ∷ take n bs) ≡ box_len b + boxes_len (take n bs) =
    length-append (box_bytes b) (flat_map box_bytes (take n bs))
    ∙ ap (λ k. k + boxes_len (take n bs)) (bytes_size b (first_box b bs f)) in
    let place : p + box_len b + boxes_len (take n bs) ≡ p + boxes_len (b ∷ take n bs) = omega (arith, size) in
    record {
      box = h.box;
      is_box = h.is_box;
      split = ap (λ (xs : List Box). b ∷ xs) h.split;
      more = ap (λ (xs : List Box). b ∷ xs) h.more;
      row = h.row ∙ ap (λ (k : ℕ). row_of (record { at = k; box = h.box })) place;
    }

-- the payload of its row is that of the box
pub payload_is : (file : List ℕ) (before after : List Box) (b : Box) → IsBox b
    → file ≡ flat_map box_bytes (before ++ b ∷ after)
    → payload_at file (row_of (record { at = boxes_len before; box = b })) ≡ b.payload
payload_is file before after b is e =
    let rest : List ℕ = flat_map box_bytes after in
    let whole : file ≡ flat_map box_bytes before ++ (box_bytes b ++ rest) =
    e ∙ flat_map-append box_bytes before (b ∷ after) in
    let header : length (header_bytes b.form (box_len b) b.kind) ≡ header_len b.form =
    header_size b.form (box_len b) b.kind is.kind in
    let len : box_len b - header_len b.form ≡ length b.payload = omega arith in
    ap (take (box_len b - header_len b.form))
    (ap (drop (boxes_len before + header_len b.form)) whole ∙ drop-append-add (flat_map box_bytes before) (box_bytes b ++ rest) (header_len b.form)
    ∙ ap₂ (λ (n : ℕ) (xs : List ℕ). drop n xs) (sym header) (append_assoc (header_bytes b.form (box_len b) b.kind) b.payload rest) ∙ drop-append_seam (header_bytes b.form (box_len b) b.kind) (b.payload ++ rest))
    ∙ ap (λ n. take n (b.payload ++ rest)) len ∙ take_at b.payload rest (length b.payload) refl

-- ---- all pass

-- the last box of a list, or one before it
snoc : (bs : List Box) (b : Box) (cs : List Box) (c : Box) (ds : List Box) → bs ++ b ∷ [] ≡ cs ++ c ∷ ds
    → ((bs ≡ cs) × (b ≡ c)) ⊎ ((zs : List Box) × (bs ≡ cs ++ c ∷ zs))
snoc [] b [] c ds e = inl (refl, first_same b c [] ds e)
snoc [] b (d ∷ cs) c ds e = absurd (no_room cs c ds (others_same b d [] (cs ++ c ∷ ds) e))
  where
    no_room : (cs : List Box) (c : Box) (ds : List Box) → [] ≡ cs ++ c ∷ ds → ⊥
    no_room [] c ds e = cc (e)
    no_room (x ∷ cs) c ds e = cc (e)
snoc (x ∷ bs) b [] c ds e = inr (bs, ap (λ (z : Box). z ∷ bs) (first_same x c (bs ++ b ∷ []) ds e))
snoc (x ∷ bs) b (d ∷ cs) c ds e = ⊎_elim
    (λ h. inl (ap₂ (λ (z : Box) (zs : List Box). z ∷ zs) (first_same x d (bs ++ b ∷ []) (cs ++ c ∷ ds) e) h.0, h.1))
    (λ h. inr (h.0, ap₂ (λ (z : Box) (zs : List Box). z ∷ zs) (first_same x d (bs ++ b ∷ []) (cs ++ c ∷ ds) e) h.1))
    (snoc bs b cs c ds (others_same x d (bs ++ b ∷ []) (cs ++ c ∷ ds) e))

-- one more box that passes
pub pass_more : (bs : List Box) (b : Box) → AllRootsPass bs → provenance_fault bs b ≡ None → AllRootsPass (bs ++ b ∷ [])
pass_more bs b p q before after c e = ⊎_elim
    (λ h. ap (λ (zs : List Box). provenance_fault zs c) (sym h.0) ∙ ap (provenance_fault bs) (sym h.1) ∙ q)
    (λ h. p before h.0 c h.1)
    (snoc bs b before c after e)

-- no boxes pass
pub pass_none : AllRootsPass []
pass_none before after b e = absurd (no_room before b after e)
  where
    no_room : (cs : List Box) (c : Box) (ds : List Box) → [] ≡ cs ++ c ∷ ds → ⊥
    no_room [] c ds e = cc (e)
    no_room (x ∷ cs) c ds e = cc (e)

-- ---- what a box is

-- the tests of a `uuid` box of C2PA
abbrev pub tests : Bool → Bool → Bool → Bool → Bool → Bool → ℕ → Part
tests u v m found hs big n =
    cond (not u) part.Other
    (cond (not v) part.Bad (cond (not m) part.Other (cond found part.Second (cond (not hs) part.Bad (cond big (part.TooLarge n) (part.Holds n))))))

-- the faults of a `uuid` box of C2PA by its tests
abbrev pub faults : Bool → Bool → Bool → Bool → Bool → Bool → ℕ → ℕ → Option MediaError
faults u v m found hs big n p =
    cond u
    (cond (not v) (Some (BadProvenanceBox p)) (cond (not m) None (cond found (Some (TwoStores p)) (cond (not hs) (Some (BadProvenanceBox p)) (cond big (Some (StoreTooLarge n)) None)))))
    None

-- a `uuid` box without a part in a store isn't of C2PA, or has version 0 and another purpose
pub other_by : (u v m found hs big : Bool) (n : ℕ) → tests u v m found hs big n ≡ part.Other
    → (not u || (v && not m)) ≡ true
other_by false v m found hs big n e = refl
other_by true true false found hs big n e = refl
other_by true false m found hs big n e = absurd (cc (e))
other_by true true true true hs big n e = absurd (cc (e))
other_by true true true false false big n e = absurd (cc (e))
other_by true true true false true true n e = absurd (cc (e))
other_by true true true false true false n e = absurd (cc (e))

-- a `uuid` box that isn't of C2PA, or has version 0 and another purpose, fails no test
pub other_fault : (u v m found hs big : Bool) (n p : ℕ) → (not u || (v && not m)) ≡ true
    → faults u v m found hs big n p ≡ None
other_fault false v m found hs big n p e = refl
other_fault true true false found hs big n p e = refl
other_fault true false m found hs big n p e = absurd (cc (e))
other_fault true true true found hs big n p e = absurd (cc (e))

-- a box that holds a store, by its tests
pub record Holder (u v m found hs big : Bool) (n t p : ℕ) : Type 0 where
  pub is : (u && v && m) ≡ true
  pub first : found ≡ false
  pub whole : hs ≡ true
  pub small : big ≡ false
  pub len : t ≡ n
  pub passes : faults u v m found hs big n p ≡ None

-- a `uuid` box that holds a store passes all tests, and no store was found before it
pub holds_by : (u v m found hs big : Bool) (n t p : ℕ) → tests u v m found hs big n ≡ part.Holds t
    → Holder u v m found hs big n t p
holds_by true true true false true false n t p e = record { is = refl; first = refl; whole = refl; small = refl; len = let f : part.Holds n ≡ part.Holds t = e in cc (f); passes = refl }
holds_by false v m found hs big n t p e = absurd (cc (e))
holds_by true false m found hs big n t p e = absurd (cc (e))
holds_by true true false found hs big n t p e = absurd (cc (e))
holds_by true true true true hs big n t p e = absurd (cc (e))
holds_by true true true false false big n t p e = absurd (cc (e))
holds_by true true true false true true n t p e = absurd (cc (e))

-- a `uuid` box that isn't passed fails with the error that is told of it, at its start
pub fails_by : (u v m found hs big : Bool) (n : ℕ) (r : RootBox) (q : Part) (e : MediaError)
    → tests u v m found hs big n ≡ q → FailsBy q r e → faults u v m found hs big n r.start ≡ Some e
fails_by u v m found hs big n r part.Other e t f = absurd f
fails_by u v m found hs big n r (part.Holds k) e t f = absurd f
fails_by true false m found hs big n r part.Bad e t f = ap Some (sym f)
fails_by true true true false false big n r part.Bad e t f = ap Some (sym f)
fails_by false v m found hs big n r part.Bad e t f = absurd (cc (t))
fails_by true true false found hs big n r part.Bad e t f = absurd (cc (t))
fails_by true true true true hs big n r part.Bad e t f = absurd (cc (t))
fails_by true true true false true true n r part.Bad e t f = absurd (cc (t))
fails_by true true true false true false n r part.Bad e t f = absurd (cc (t))
fails_by true true true true hs big n r part.Second e t f = ap Some (sym f)
fails_by false v m found hs big n r part.Second e t f = absurd (cc (t))
fails_by true false m found hs big n r part.Second e t f = absurd (cc (t))
fails_by true true false found hs big n r part.Second e t f = absurd (cc (t))
fails_by true true true false false big n r part.Second e t f = absurd (cc (t))
fails_by true true true false true true n r part.Second e t f = absurd (cc (t))
fails_by true true true false true false n r part.Second e t f = absurd (cc (t))
fails_by true true true false true true n r (part.TooLarge k) e t f = ap Some (let g : part.TooLarge n ≡ part.TooLarge k = t in let same : n ≡ k = cc (g) in ap StoreTooLarge same ∙ sym f)
fails_by false v m found hs big n r (part.TooLarge k) e t f = absurd (cc (t))
fails_by true false m found hs big n r (part.TooLarge k) e t f = absurd (cc (t))
fails_by true true false found hs big n r (part.TooLarge k) e t f = absurd (cc (t))
fails_by true true true true hs big n r (part.TooLarge k) e t f = absurd (cc (t))
fails_by true true true false false big n r (part.TooLarge k) e t f = absurd (cc (t))
fails_by true true true false true false n r (part.TooLarge k) e t f = absurd (cc (t))
