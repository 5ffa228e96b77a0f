-- Each payload of a description has its fields, or a fault.
use Rattle.std.proofs.Common.{◌≡◌, ◌⊎◌, inl, inr, ⊎_elim, ℕ, ◌+◌, ◌^◌, ◌<◌, ◌≤◌, Bool, ◌&&◌, ◌||◌, not, true, false, cond, List, [], ◌∷◌, ◌++◌, length, take, drop, Option, Some, None, refl, sym, ap, ◌∙◌, subst, append_assoc, arith, leb, ltb}
use Rattle.std.proofs.lemmas.List.{take_all, drop_at}
use Rattle.std.proofs.lemmas.Bool.{cases_lt, cases_eq}
use Rattle.std.proofs.lemmas.Str.{IsUtf8-from_is_utf8, is_utf8-from_IsUtf8}
use Rattle.std.specs.List.{AllByRecursion}
use Rattle.std.specs.Str.{is_utf8}
use Rattle.std.specs.Int.{w32, w64, from_be_bytes}
use borrow.Author.Tests.{leb-true, ltb-false, both_ways}
use Rattle.c2_spec.specs.declared.jumbf.JumbfError.{JumbfError}
use Rattle.c2_spec.specs.declared.jumbf.JumbfError.TheVariants.{BadHead, Overrun}
use Rattle.c2_spec.specs.Jumbf.Tree.{PlainBox, Description, IsFields, IsLabel, IsLabelByte, label_bytes, description_payload, FitsHead, head_len}
use Rattle.c2_spec.specs.Jumbf.Faults.{tells_wide, told_total, told_kind, told_payload, has_head, box_head_fault, toggle_byte, is_set, IsLabelPart, IsFixedPart, LabelFault, DescriptionFault}
use Rattle.c2_jumbf.specs.declared.front.Front.{Front}
use Rattle.c2_jumbf.specs.declared.fields.Fields.{Fields}
use Rattle.c2_jumbf.specs.Heads.{IsHead}
use Rattle.c2_jumbf.specs.Fields.{HasFields, read_label, IsPrivate, IsNoPrivate}
use Rattle.c2_jumbf.proofs.HeadLaws.{payload_size, front_box}
use Rattle.c2_lemmas.proofs.Bytes.{AreBytes, bytes-drop, bytes-take, small_4}
use Rattle.c2_jumbf.proofs.FieldLemmas.{fixed_here, fields_here, not_zeros, no_label, no_id, no_digest, no_private}

-- a head is good, or it fails a test
pub good_or : (at : ℕ) (region : List ℕ)
    → (box_head_fault at region ≡ None) ⊎ ((e : JumbfError) × (box_head_fault at region ≡ Some e))
good_or at region = go (box_head_fault at region) refl
  where
    go : (x : Option JumbfError) → box_head_fault at region ≡ x
        → (box_head_fault at region ≡ None) ⊎ ((e : JumbfError) × (box_head_fault at region ≡ Some e))
    go None is = inl is
    go (Some e) is = inr (e, is)

-- what a good head tells
abbrev pub told : List ℕ → Front
told region = record { header = head_len (tells_wide region); total = told_total region; kind = told_kind region }

-- where the tests of a header pass, its length is from 16 on in XLBox, and else from 8 on
tests_of : (a b w c d : Bool) → (a && (b || w) && (not w || (c && d))) ≡ true
    → (w ≡ true → (d ≡ true)) × (w ≡ false → b ≡ true)
tests_of false b w c d h = absurd (cc (h))
tests_of true true true true true h = (λ e. refl, λ e. refl)
tests_of true true true true false h = absurd (cc (h))
tests_of true true true false d h = absurd (cc (h))
tests_of true false true true true h = (λ e. refl, λ e. absurd (cc (e)))
tests_of true false true true false h = absurd (cc (h))
tests_of true false true false d h = absurd (cc (h))
tests_of true true false c d h = (λ e. absurd (cc (e)), λ e. refl)
tests_of true false false c d h = absurd (cc (h))

-- a header without fault is there, and its box ends within the region
head_passes : (at : ℕ) (a b : Bool) → cond (not a) (Some (BadHead at)) (cond b (Some (Overrun at)) None) ≡ None
    → (a ≡ true) × (b ≡ false)
head_passes at true true h = absurd (cc (h))
head_passes at true false h = (refl, refl)
head_passes at false b h = absurd (cc (h))

-- where the region's bytes have no fault, a header is there, and its box ends within the region
good_says : (region : List ℕ) → box_head_fault 0 region ≡ None
    → (has_head region ≡ true) × (ltb (length region) (told_total region) ≡ false)
unfolding box_head_fault
good_says region good = head_passes 0 (has_head region) (ltb (length region) (told_total region)) good

-- a header without fault is read as it states
pub told_head : (region : List ℕ) → box_head_fault 0 region ≡ None → IsHead region (told region)
told_head region good = record { good = good; header = refl; total = refl; kind = refl; least = least (tells_wide region) refl; short = short (tells_wide region); inside = ltb-false _ _ (good_says region good).1 }
  where
    tests : (tells_wide region ≡ true → leb 16 (told_total region) ≡ true)
        × (tells_wide region ≡ false → leb 8 (told_total region) ≡ true)
    tests =
        tests_of (leb 8 (length region)) (leb 8 (told_total region)) (tells_wide region) (leb 16 (length region))
        (leb 16 (told_total region)) (good_says region good).0

    least : (w : Bool) → tells_wide region ≡ w → head_len (tells_wide region) ≤ told_total region
    least true is = subst (λ w. head_len w ≤ told_total region) (sym is) (leb-true 16 (told_total region) (tests.0 is))
    least false is = subst (λ w. head_len w ≤ told_total region) (sym is) (leb-true 8 (told_total region) (tests.1 is))

    short : (w : Bool) → head_len w ≤ 16
    short true = omega arith
    short false = omega arith

-- the number that eight bytes spell is below 2^64
small_8 : (xs : List ℕ) → AreBytes xs → from_be_bytes w64 xs < 2 ^ 64
small_8 xs h = omega (arith, h 0, h 1, h 2, h 3, h 4, h 5, h 6, h 7)

-- the header of a box that ends within its region can tell its length, however long the region is
pub told_fits : (region : List ℕ) (h : Front) → AreBytes region → IsHead region h
    → FitsHead (told_kind region) (tells_wide region) (length (told_payload region))
told_fits region h bytes k = record { type = small_4 (take 4 (drop 4 region)) (bytes-take 4 (drop 4 region) (bytes-drop 4 region bytes)); total = go (tells_wide region) refl }
  where
    go : (b : Bool) → tells_wide region ≡ b → head_len b + length (told_payload region) < cond b (2 ^ 64) (2 ^ 32)
    go true e =
        let long : told_total region ≡ from_be_bytes w64 (take 8 (drop 8 region)) =
        ap (λ b. cond b (from_be_bytes w64 (take 8 (drop 8 region))) (from_be_bytes w32 (take 4 region))) e in
        omega
        (arith, payload_size region h k, k.header ∙ ap head_len e, k.total, long, small_8 (take 8 (drop 8 region)) (bytes-take 8 (drop 8 region) (bytes-drop 8 region bytes)))
    go false e =
        let short : told_total region ≡ from_be_bytes w32 (take 4 region) =
        ap (λ b. cond b (from_be_bytes w64 (take 8 (drop 8 region))) (from_be_bytes w32 (take 4 region))) e in
        omega
        (arith, payload_size region h k, k.header ∙ ap head_len e, k.total, short, small_4 (take 4 region) (bytes-take 4 region bytes))

-- the first byte that no label holds
data LabelSplit (bytes : List ℕ) : Type 0 where
  label_only : AllByRecursion IsLabelByte bytes → LabelSplit bytes
  label_then : (before rest : List ℕ) (byte : ℕ) → bytes ≡ before ++ byte ∷ rest → AllByRecursion IsLabelByte before
      → (IsLabelByte byte → ⊥) → LabelSplit bytes

-- bytes are all a label's, or there is a first that isn't
label_split : (bytes : List ℕ) → LabelSplit bytes
label_split [] = label_only tt
label_split (x ∷ xs) =
    ⊎_elim (λ control. label_then [] xs x refl tt (λ h. omega (arith, control, h.0)))
    (λ high. ⊎_elim (λ delete. label_then [] xs x refl tt (λ h. h.1 delete)) (λ other. extend (high, other) (label_split xs)) (cases_eq x 0x7F))
    (cases_lt x 0x20)
  where
    extend : IsLabelByte x → LabelSplit xs → LabelSplit (x ∷ xs)
    extend own (label_only h) = label_only (own, h)
    extend own (label_then before rest byte split h other) =
        label_then (x ∷ before) rest byte (ap (λ (ys : List ℕ). x ∷ ys) split) (own, h) other

-- a label, or a fault
data LabelOr (bytes : List ℕ) : Type 0 where
  labelled : (label rest : List ℕ) → IsLabel label → bytes ≡ label ++ 0 ∷ rest → LabelOr bytes
  unlabelled : LabelFault bytes → LabelOr bytes

-- bytes begin with a label and its zero byte, or have a fault of the label
label_or : (bytes : List ℕ) → LabelOr bytes
label_or bytes = go (label_split bytes)
  where
    text : (before rest : List ℕ) → bytes ≡ before ++ 0 ∷ rest → AllByRecursion IsLabelByte before → (b : Bool)
        → is_utf8 before ≡ b → LabelOr bytes
    text before rest split h true is = labelled before rest (IsUtf8-from_is_utf8 before is, h) split
    text before rest split h false is =
        unlabelled
        (LabelFault.no_text before rest split (not_zeros before h) (λ u. both_ways _ is (is_utf8-from_IsUtf8 before u)))

    go : LabelSplit bytes → LabelOr bytes
    go (label_only h) = unlabelled (LabelFault.no_zero (not_zeros bytes h))
    go (label_then before rest byte split h other) =
        ⊎_elim (λ zeroed. text before rest (split ∙ ap (λ b. before ++ b ∷ rest) zeroed) h (is_utf8 before) refl)
        (λ some. unlabelled (LabelFault.control_byte before rest byte split (not_zeros before h) some other))
        (cases_eq byte 0)

-- the label that the toggle shows is there, or has a fault
label_part : (on : Bool) (bytes : List ℕ)
    → ((on ≡ true) × LabelFault bytes) ⊎ ((label : Option (List ℕ)) × (rest : List ℕ) × IsLabelPart on bytes label rest)
label_part false bytes = inr (None, bytes, record { shown = refl; legal = tt; split = refl })
label_part true bytes = go (label_or bytes)
  where
    go : LabelOr bytes
        → ((true ≡ true) × LabelFault bytes) ⊎ ((label : Option (List ℕ)) × (rest : List ℕ) × IsLabelPart true bytes label rest)
    go (labelled label rest legal split) =
        inr
        (Some label, rest, record { shown = refl; legal = legal; split = split ∙ sym (append_assoc label (0 ∷ []) rest) })
    go (unlabelled fault) = inl (refl, fault)

-- the field of a fixed size that the toggle shows is there, or bytes are missing
fixed_part : (on : Bool) (size : ℕ) (bytes : List ℕ)
    → ((on ≡ true) × (length bytes < size)) ⊎ ((value : Option (List ℕ)) × IsFixedPart on size bytes value (drop (cond on size 0) bytes))
fixed_part false size bytes = inr (None, record { shown = refl; legal = tt; split = refl })
fixed_part true size bytes =
    ⊎_elim (λ short. inl (refl, short)) (λ inside. inr (fixed_here true size bytes (drop size bytes) refl inside refl))
    (cases_lt (length bytes) size)

-- what is left is the private box that the toggle shows, or isn't
private_part : (on : Bool) (bytes : List ℕ) → AreBytes bytes
    → IsNoPrivate on bytes ⊎ ((box : Option PlainBox) × IsPrivate on bytes box)
private_part false [] all = inr (None, record { shown = refl; legal = tt; split = refl })
private_part false (x ∷ xs) all = inl (inr (refl, omega arith))
private_part true bytes all = ⊎_elim
    (λ good. ⊎_elim (λ whole. inr (here good whole)) (λ other. inl (inl (refl, inr other))) (cases_eq (told_total bytes) (length bytes)))
    (λ bad. inl (inl (refl, inl (λ good. let h : None ≡ Some bad.0 = sym good ∙ bad.1 in cc (h)))))
    (good_or 0 bytes)
  where
    here : box_head_fault 0 bytes ≡ None → told_total bytes ≡ length bytes
        → (box : Option PlainBox) × IsPrivate true bytes box
    here good whole =
        let k : IsHead bytes (told bytes) = told_head bytes good in (
          Some (record { kind = told_kind bytes; wide = tells_wide bytes; payload = told_payload bytes }),
          record { shown = refl; legal = told_fits bytes (told bytes) all k; split = sym (take_all (told bytes).total bytes (omega (arith, whole, k.total))) ∙ front_box bytes (told bytes) all k },
        )

-- the fields that are read of a label
read_as : Option (List ℕ) → Fields
read_as None = record { label = None }
read_as (Some t) = record { label = Some (record { ref_ptr = (0, 0); now = t }) }

-- a label is read as itself
as_read : (label : Option (List ℕ)) → label ≡ read_label (read_as label)
unfolding read_as
as_read None = refl
as_read (Some t) = refl

-- the fields, or a fault
pub data FieldsOr (wide : Bool) (payload : List ℕ) : Type 0 where
  described : (d : Description) → d.wide ≡ wide → IsFields d → payload ≡ description_payload d → FieldsOr wide payload
  undescribed : DescriptionFault payload → FieldsOr wide payload

-- the rest of bytes after a prefix is bytes
pub bytes_back : (all front back : List ℕ) → AreBytes all → all ≡ front ++ back → AreBytes back
bytes_back all front back h split =
    subst AreBytes (ap (drop (length front)) split ∙ drop_at front back (length front) refl)
    (bytes-drop (length front) all h)

-- behind the digest, the ID and the label
with_digest : (wide : Bool) (payload rest more last : List ℕ) (label id digest : Option (List ℕ)) → AreBytes last
    → 17 ≤ length payload → toggle_byte payload < 32 → IsLabelPart (is_set 2 payload) (drop 17 payload) label rest
    → IsFixedPart (is_set 4 payload) 4 rest id more → IsFixedPart (is_set 8 payload) 32 more digest last
    → FieldsOr wide payload
with_digest wide payload rest more last label id digest all long small p q r = go (private_part (is_set 16 payload) last all)
  where
    go : IsNoPrivate (is_set 16 payload) last ⊎ ((box : Option PlainBox) × IsPrivate (is_set 16 payload) last box)
        → FieldsOr wide payload
    go (inl f) = undescribed (no_private payload (drop 17 payload) rest more last label id digest refl p q r f)
    go (inr v) =
        let f : HasFields payload (read_as label) =
        fields_here payload (drop 17 payload) rest more last (read_as label) id digest v.0 long small refl
        (subst (λ o. IsLabelPart (is_set 2 payload) (drop 17 payload) o rest) (as_read label) p) q r v.1 in
        let d : Description = f.description in
        described
        (record { wide = wide; uuid = d.uuid; requestable = d.requestable; label = d.label; id = d.id; digest = d.digest; private = d.private })
        refl
        (record { uuid = f.legal.uuid; label = f.legal.label; id = f.legal.id; digest = f.legal.digest; private = f.legal.private })
        f.bytes

-- once label and ID are read, the rest of the payload is fields or a fault
with_id : (wide : Bool) (payload rest more : List ℕ) (label id : Option (List ℕ)) → AreBytes more → 17 ≤ length payload
    → toggle_byte payload < 32 → IsLabelPart (is_set 2 payload) (drop 17 payload) label rest
    → IsFixedPart (is_set 4 payload) 4 rest id more → FieldsOr wide payload
with_id wide payload rest more label id all long small p q = go (fixed_part (is_set 8 payload) 32 more)
  where
    go :
        ((is_set 8 payload ≡ true) × (length more < 32))
        ⊎ ((value : Option (List ℕ)) × IsFixedPart (is_set 8 payload) 32 more value (drop (cond (is_set 8 payload) 32 0) more))
        → FieldsOr wide payload
    go (inl f) = undescribed (no_digest payload (drop 17 payload) rest more label id refl p q f.0 f.1)
    go (inr r) =
        with_digest wide payload rest more (drop (cond (is_set 8 payload) 32 0) more) label id r.0
        (bytes-drop (cond (is_set 8 payload) 32 0) more all) long small p q r.1

-- once the label is read, the rest of the payload is fields or a fault
with_label : (wide : Bool) (payload rest : List ℕ) (label : Option (List ℕ)) → AreBytes rest → 17 ≤ length payload
    → toggle_byte payload < 32 → IsLabelPart (is_set 2 payload) (drop 17 payload) label rest → FieldsOr wide payload
with_label wide payload rest label all long small p = go (fixed_part (is_set 4 payload) 4 rest)
  where
    go :
        ((is_set 4 payload ≡ true) × (length rest < 4))
        ⊎ ((value : Option (List ℕ)) × IsFixedPart (is_set 4 payload) 4 rest value (drop (cond (is_set 4 payload) 4 0) rest))
        → FieldsOr wide payload
    go (inl f) = undescribed (no_id payload (drop 17 payload) rest label refl p f.0 f.1)
    go (inr q) =
        with_id wide payload rest (drop (cond (is_set 4 payload) 4 0) rest) label q.0
        (bytes-drop (cond (is_set 4 payload) 4 0) rest all) long small p q.1

-- a payload is the fields of a description, or has a fault
pub fields_or : (wide : Bool) (payload : List ℕ) → AreBytes payload → FieldsOr wide payload
fields_or wide payload all = ⊎_elim (λ short. undescribed (DescriptionFault.too_short short))
    (λ long. ⊎_elim (λ small. go long small (label_part (is_set 2 payload) (drop 17 payload))) (λ large. undescribed (DescriptionFault.unknown_toggle large)) (cases_lt (toggle_byte payload) 32))
    (cases_lt (length payload) 17)
  where
    go : 17 ≤ length payload → toggle_byte payload < 32
        → ((is_set 2 payload ≡ true) × LabelFault (drop 17 payload)) ⊎ ((label : Option (List ℕ)) × (rest : List ℕ) × IsLabelPart (is_set 2 payload) (drop 17 payload) label rest)
        → FieldsOr wide payload
    go long small (inl f) = undescribed (no_label payload (drop 17 payload) refl f.0 f.1)
    go long small (inr p) =
        with_label wide payload p.1 p.0
        (bytes_back (drop 17 payload) (label_bytes p.0) p.1 (bytes-drop 17 payload all) p.2.split) long small p.2
