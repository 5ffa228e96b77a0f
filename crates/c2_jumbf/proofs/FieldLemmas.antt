-- The fields of a description as they are read.
use Rattle.std.proofs.Common.{◌≡◌, ◌≢◌, inl, inr, ℕ, suc, ◌+◌, ◌/◌, ◌%◌, ◌^◌, ◌<◌, ◌≤◌, Bool, true, false, List, [], ◌∷◌, ◌++◌, length, get_or, take, drop, Option, Some, None, refl, sym, ap, ◌∙◌, subst, arith, is_some, eqb}
use Rattle.std.proofs.lemmas.List.{take-append-drop, drop_more, length-take-le, take_all, get_or-take}
use Rattle.std.specs.List.{AllByRecursion}
use Rattle.std.specs.Str.{IsUtf8}
use Rattle.c2_spec.specs.declared.jumbf.JumbfError.{JumbfError}
use Rattle.c2_spec.specs.Jumbf.Tree.{PlainBox, Description, IsLabel, IsLabelByte, label_bytes, fixed_bytes, private_bytes, toggles}
use Rattle.c2_spec.specs.Jumbf.Faults.{tells_wide, told_kind, told_payload, box_head_fault, IsLabelPart, IsFixedPart, LabelFault, DescriptionFault, BehindLabel, is_set}
use Rattle.c2_spec.proofs.JumbfParts.{one, one_eqb, small_bit, sum_is, parts_sum, desc_split}
use Rattle.c2_jumbf.specs.declared.front.Front.{Front}
use Rattle.c2_jumbf.specs.declared.fields.Fields.{Fields}
use Rattle.c2_jumbf.specs.Heads.{IsHead}
use Rattle.c2_jumbf.specs.Fields.{HasFields, HasLabel, read_label, IsPrivate, IsNoPrivate}
use Rattle.c2_jumbf.proofs.HeadLaws.{front_fits, front_box}
use Rattle.c2_lemmas.proofs.Bytes.{AreBytes}

-- a field that its toggle shows is there where its bytes are
pub fixed_here : (on : Bool) (size : ℕ) (bytes rest : List ℕ) → on ≡ true → size ≤ length bytes → rest ≡ drop size bytes
    → (value : Option (List ℕ)) × IsFixedPart on size bytes value rest
fixed_here on size bytes rest yes_on inside rest_is =
    (Some (take size bytes), record { shown = sym yes_on; legal = length-take-le size bytes inside; split = sym (take-append-drop size bytes) ∙ ap (λ (x : List ℕ). take size bytes ++ x) (sym rest_is) })

-- bytes whose header states their own length are a private box
pub private_here : (on : Bool) (bytes : List ℕ) (h : Front) → on ≡ true → AreBytes bytes → length bytes < 2 ^ 64
    → IsHead bytes h → h.total ≡ length bytes → (b : Option PlainBox) × IsPrivate on bytes b
private_here on bytes h yes_on all small k whole =
    (Some (record { kind = told_kind bytes; wide = tells_wide bytes; payload = told_payload bytes }), record { shown = sym yes_on; legal = front_fits bytes h all small k; split = sym (take_all h.total bytes (omega arith)) ∙ front_box bytes h all k })

-- bytes whose header has a fault are no private box
pub private_bad : (on : Bool) (bytes : List ℕ) (e : JumbfError) → on ≡ true → box_head_fault 0 bytes ≡ Some e
    → IsNoPrivate on bytes
private_bad on bytes e is_on bad = inl (is_on, inl (λ good. let h : None ≡ Some e = sym good ∙ bad in cc (h)))

-- bytes whose header states another length than theirs are no private box
pub private_short : (on : Bool) (bytes : List ℕ) (h : Front) → on ≡ true → IsHead bytes h → h.total ≢ length bytes
    → IsNoPrivate on bytes
private_short on bytes h is_on k other = inl (is_on, inr (λ e. other (k.total ∙ e)))

-- a payload of which every field was read is the payload of a description with that label
pub fields_here :
    (payload bytes rest more last : List ℕ) (f : Fields) (id digest : Option (List ℕ)) (boxed : Option PlainBox)
    → 17 ≤ length payload → get_or payload 16 0 < 32 → bytes ≡ drop 17 payload
    → IsLabelPart (eqb (get_or payload 16 0 / 2 % 2) 1) bytes (read_label f) rest
    → IsFixedPart (eqb (get_or payload 16 0 / 4 % 2) 1) 4 rest id more
    → IsFixedPart (eqb (get_or payload 16 0 / 8 % 2) 1) 32 more digest last
    → IsPrivate (eqb (get_or payload 16 0 / 16 % 2) 1) last boxed → HasFields payload f
fields_here payload bytes rest more last f id digest boxed long small b p q r v = record {
  description = d;
  label = refl;
  legal =
      record
      { uuid = length-take-le 16 payload (omega arith); label = p.legal; id = q.legal; digest = r.legal; private = v.legal };
  bytes =
      sym (take-append-drop 16 payload)
      ∙ ap (λ (x : List ℕ). take 16 payload ++ x)
      (drop_more payload 16 0 (omega arith) ∙ ap (λ n. n ∷ drop 17 payload) (sym sum) ∙ ap (λ (x : List ℕ). toggles d ∷ x) tail)
      ∙ sym (desc_split d);
}
  where
    t : ℕ
    t = get_or payload 16 0

    d : Description
    d =
        record
        { wide = false; uuid = take 16 payload; requestable = eqb (t % 2) 1; label = read_label f; id = id; digest = digest; private = boxed }

    sum : toggles d ≡ t
    sum =
        let a : one (eqb (t % 2) 1) ≡ t % 2 = one_eqb (t % 2) (small_bit t) in
        let b2 : one (is_some (read_label f)) ≡ t / 2 % 2 = ap one p.shown ∙ one_eqb (t / 2 % 2) (small_bit (t / 2)) in
        let b4 : one (is_some id) ≡ t / 4 % 2 = ap one q.shown ∙ one_eqb (t / 4 % 2) (small_bit (t / 4)) in
        let b8 : one (is_some digest) ≡ t / 8 % 2 = ap one r.shown ∙ one_eqb (t / 8 % 2) (small_bit (t / 8)) in
        let b16 : one (is_some boxed) ≡ t / 16 % 2 = ap one v.shown ∙ one_eqb (t / 16 % 2) (small_bit (t / 16)) in
        omega (arith, sum_is d, parts_sum t small, a, b2, b4, b8, b16)

    tail : drop 17 payload ≡ label_bytes (read_label f)
        ++ (fixed_bytes id ++ (fixed_bytes digest ++ private_bytes boxed))
    tail =
        sym b ∙ p.split
        ∙ ap (λ (x : List ℕ). label_bytes (read_label f) ++ x)
        (q.split ∙ ap (λ (x : List ℕ). fixed_bytes id ++ x) (r.split ∙ ap (λ (x : List ℕ). fixed_bytes digest ++ x) v.split))

-- the label, from the place of the first byte that is none of its own
all_from : (xs : List ℕ) → ((k : ℕ) → k < length xs → IsLabelByte (get_or xs k 0)) → AllByRecursion IsLabelByte xs
all_from [] h = tt
all_from (x ∷ xs) h = (h 0 (omega arith), all_from xs (λ k l. h (suc k) (omega arith)))

-- bytes of a label up to the first zero byte are the label, where they are UTF-8
pub label_here : (bytes label rest : List ℕ) (end : ℕ) → end < length bytes
    → ((k : ℕ) → k < end → IsLabelByte (get_or bytes k 0)) → get_or bytes end 0 ≡ 0 → label ≡ take end bytes
    → rest ≡ drop (end + 1) bytes → IsUtf8 (take end bytes) → HasLabel bytes label rest
label_here bytes label rest end inside before zero_here label_is rest_is utf8 =
    let size : length (take end bytes) ≡ end = length-take-le end bytes (omega arith) in
    record {
      legal =
          subst IsLabel (sym label_is)
          (utf8, all_from (take end bytes) (λ k l. subst IsLabelByte (sym (get_or-take end bytes k 0 (omega (arith, l, size)))) (before k (omega (arith, l, size)))));
      split =
          sym (take-append-drop end bytes)
          ∙ ap (λ (x : List ℕ). take end bytes ++ x)
          (drop_more bytes end 0 inside ∙ ap (λ b. b ∷ drop (end + 1) bytes) zero_here)
          ∙ ap (λ (x : List ℕ). x ++ 0 ∷ drop (end + 1) bytes) (sym label_is)
          ∙ ap (λ (x : List ℕ). label ++ 0 ∷ x) (sym rest_is);
    }

-- the bytes of a label aren't zero
pub not_zeros : (xs : List ℕ) → AllByRecursion IsLabelByte xs → AllByRecursion (λ b. b ≢ 0) xs
not_zeros [] h = tt
not_zeros (x ∷ xs) h = (λ e. omega (arith, e, h.0.0), not_zeros xs h.1)

-- bytes of which each before an end may stand in a label are all such up to there
front_labels : (bytes : List ℕ) (end : ℕ) → end ≤ length bytes → ((k : ℕ) → k < end → IsLabelByte (get_or bytes k 0))
    → AllByRecursion IsLabelByte (take end bytes)
front_labels bytes end inside before =
    let size : length (take end bytes) ≡ end = length-take-le end bytes inside in
    all_from (take end bytes)
    (λ k l. subst IsLabelByte (sym (get_or-take end bytes k 0 (omega (arith, l, size)))) (before k (omega (arith, l, size))))

-- bytes of a label up to the end, with no zero byte, are a fault
pub label_open : (bytes : List ℕ) (end : ℕ) → end ≡ length bytes → ((k : ℕ) → k < end → IsLabelByte (get_or bytes k 0))
    → LabelFault bytes
label_open bytes end whole before =
    LabelFault.no_zero
    (subst (AllByRecursion (λ b. b ≢ 0)) (take_all end bytes (omega (arith, whole))) (not_zeros (take end bytes) (front_labels bytes end (omega (arith, whole)) before)))

-- a byte that no label has, and that isn't zero, is a fault
pub label_control : (bytes : List ℕ) (end : ℕ) → end < length bytes
    → ((k : ℕ) → k < end → IsLabelByte (get_or bytes k 0)) → (end < length bytes → IsLabelByte (get_or bytes end 0) → ⊥)
    → get_or bytes end 0 ≢ 0 → LabelFault bytes
label_control bytes end inside before at other =
    LabelFault.control_byte (take end bytes) (drop (end + 1) bytes) (get_or bytes end 0)
    (sym (take-append-drop end bytes) ∙ ap (λ (x : List ℕ). take end bytes ++ x) (drop_more bytes end 0 inside))
    (not_zeros (take end bytes) (front_labels bytes end (omega (arith, inside)) before)) other (at inside)

-- a label that isn't UTF-8 is a fault
pub label_no_text : (bytes : List ℕ) (end : ℕ) → end < length bytes
    → ((k : ℕ) → k < end → IsLabelByte (get_or bytes k 0)) → get_or bytes end 0 ≡ 0 → (IsUtf8 (take end bytes) → ⊥)
    → LabelFault bytes
label_no_text bytes end inside before zero_here bad =
    LabelFault.no_text (take end bytes) (drop (end + 1) bytes)
    (sym (take-append-drop end bytes) ∙ ap (λ (x : List ℕ). take end bytes ++ x) (drop_more bytes end 0 inside ∙ ap (λ b. b ∷ drop (end + 1) bytes) zero_here))
    (not_zeros (take end bytes) (front_labels bytes end (omega (arith, inside)) before)) bad

-- what is missing behind the toggles
pub no_label : (payload bytes : List ℕ) → bytes ≡ drop 17 payload → is_set 2 payload ≡ true → LabelFault bytes
    → DescriptionFault payload
no_label payload bytes b is_on f = DescriptionFault.bad_label is_on (subst LabelFault b f)

-- what is left after the label is what follows it in the payload
behind_label : (payload bytes rest : List ℕ) (label : Option (List ℕ)) → bytes ≡ drop 17 payload
    → IsLabelPart (is_set 2 payload) bytes label rest → BehindLabel payload rest
behind_label payload bytes rest label b p =
    (label, subst (λ (x : List ℕ). IsLabelPart (is_set 2 payload) x label rest) b p)

-- fewer than 4 bytes after the label, where the toggle shows an ID, are a fault
pub no_id : (payload bytes rest : List ℕ) (label : Option (List ℕ)) → bytes ≡ drop 17 payload
    → IsLabelPart (is_set 2 payload) bytes label rest → is_set 4 payload ≡ true → length rest < 4
    → DescriptionFault payload
no_id payload bytes rest label b p is_on short =
    DescriptionFault.short_id rest (behind_label payload bytes rest label b p) is_on short

-- fewer than 32 bytes after the ID, where the toggle shows a digest, are a fault
pub no_digest : (payload bytes rest more : List ℕ) (label id : Option (List ℕ)) → bytes ≡ drop 17 payload
    → IsLabelPart (is_set 2 payload) bytes label rest → IsFixedPart (is_set 4 payload) 4 rest id more
    → is_set 8 payload ≡ true → length more < 32 → DescriptionFault payload
no_digest payload bytes rest more label id b p q is_on short =
    DescriptionFault.short_digest more (rest, behind_label payload bytes rest label b p, (id, q)) is_on short

-- another rest after the digest than the toggle shows is a fault
pub no_private : (payload bytes rest more last : List ℕ) (label id digest : Option (List ℕ)) → bytes ≡ drop 17 payload
    → IsLabelPart (is_set 2 payload) bytes label rest → IsFixedPart (is_set 4 payload) 4 rest id more
    → IsFixedPart (is_set 8 payload) 32 more digest last → IsNoPrivate (is_set 16 payload) last
    → DescriptionFault payload
no_private payload bytes rest more last label id digest b p q r (inl f) =
    DescriptionFault.no_private_box last (more, (rest, behind_label payload bytes rest label b p, (id, q)), (digest, r))
    f.0 f.1
no_private payload bytes rest more last label id digest b p q r (inr f) =
    DescriptionFault.bytes_behind last (more, (rest, behind_label payload bytes rest label b p, (id, q)), (digest, r))
    f.0 f.1
