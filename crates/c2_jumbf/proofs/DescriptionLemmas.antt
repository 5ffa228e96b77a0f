-- The description of a superbox is the box behind it, and has its type UUID and its label.
use Rattle.std.proofs.Common.{◌≡◌, ◌≢◌, ℕ, suc, ◌+◌, ◌-◌, ◌<◌, ◌≤◌, true, List, ◌++◌, length, get_or, take, drop, Option, Some, None, refl, sym, ap, ◌∙◌, subst, arith, length-append}
use Rattle.std.proofs.lemmas.List.{get_or-drop, length-drop}
use Rattle.c2_spec.specs.Jumbf.Tree.{Description, IsDescription, label_bytes, fixed_bytes, private_bytes, Tree, leaf, super, IsLegalTree}
use Rattle.c2_spec.specs.Jumbf.Faults.{is_set, IsLabelPart, LabelFault, DescriptionFault}
use Rattle.c2_spec.specs.Jumbf.Boxes.{AnyBox, node, described, IndexedBox, tree_count, any_count, index_after, boxes_of, box_at, any_uuid, any_label, any_contents, IsLegalBox}
use Rattle.c2_spec.proofs.JumbfParts.{label_once, no_fields, own_label, front_same, desc_split}
use Rattle.c2_jumbf.specs.Described.{any_description, IsPayload}
use Rattle.c2_spec.proofs.JumbfBoxes.{own_boxes, inner_boxes, box_stands, box_inside, count_is}

-- a box with one index has no description, and another has
pub lone_box : (t : Tree) (i : ℕ) → i < tree_count t → index_after t i ≡ i + 1 → any_description (box_at t i).box ≡ None
lone_box t i l e = go (box_at t i).box refl
  where
    go : (b : AnyBox) → (box_at t i).box ≡ b → any_description b ≡ None
    go (node (leaf b)) is = refl
    go (described d) is = refl
    go (node (super wide d us)) is =
        let n : any_count (box_at t i).box ≡ any_count (node (super wide d us)) = ap any_count is in
        absurd (omega (arith, e, n))

-- the box at an index is a superbox, whose description is the next box
pub record IsSuper (t : Tree) (i : ℕ) : Type 0 where
  pub description : Description
  pub own : any_description (box_at t i).box ≡ Some description
  pub next : (box_at t (i + 1)).box ≡ described description
  pub inside : i + 1 < tree_count t
  pub legal : IsDescription description

-- a box with others inside it is a superbox
pub super_box : (t : Tree) (i : ℕ) → i < tree_count t → IsLegalTree 1 t → index_after t i ≢ i + 1 → IsSuper t i
super_box t i l h other = go (box_at t i).box refl
  where
    s : (rest : List IndexedBox) × (drop i (boxes_of t) ≡ own_boxes (box_at t i) ++ rest)
    s = box_inside t i l

    alone : (b : AnyBox) → (box_at t i).box ≡ b → any_count b ≡ 1 → index_after t i ≡ i + 1
    alone b is one = ap (λ n. i + n) (ap any_count is ∙ one)

    go : (b : AnyBox) → (box_at t i).box ≡ b → IsSuper t i
    go (node (leaf b)) is = absurd (other (alone (node (leaf b)) is refl))
    go (described d) is = absurd (other (alone (described d) is refl))
    go (node (super wide d us)) is =
        let there : drop i (boxes_of t) ≡ inner_boxes (box_at t i).index (box_at t i).place (box_at t i).depth (node (super wide d us)) ++ s.0 =
        s.1 ∙ ap (λ b. inner_boxes (box_at t i).index (box_at t i).place (box_at t i).depth b ++ s.0) is in
        let first : IndexedBox = record { index = 0; place = 0; depth = 1; box = node t } in
        let second : get_or (boxes_of t) (i + 1) first ≡ get_or (drop i (boxes_of t)) 1 first =
        sym (get_or-drop i (boxes_of t) 1 first) in
        let size : length (boxes_of t) - i ≡ length (inner_boxes (box_at t i).index (box_at t i).place (box_at t i).depth (node (super wide d us)) ++ s.0) =
        sym (length-drop i (boxes_of t)) ∙ ap length there in
        record {
          description = d;
          own = ap any_description is;
          next = ap (λ b. b.box) (second ∙ ap (λ (x : List IndexedBox). get_or x 1 first) there);
          inside = omega (arith, size, count_is t);
          legal = (subst (IsLegalBox (box_at t i).depth) is (box_stands t i l h).legal).1;
        }

-- the contents of the next box are the payload of a superbox's description
pub payload_here : (t : Tree) (i : ℕ) (payload : List ℕ) (s : IsSuper t i)
    → payload ≡ any_contents (box_at t (i + 1)).box → IsPayload (box_at t i).box payload
payload_here t i payload s e =
    record { description = s.description; own = s.own; legal = s.legal; bytes = e ∙ ap any_contents s.next }

-- the type UUID
no_uuid : (b : AnyBox) → any_description b ≡ None → any_uuid b ≡ None
no_uuid (node (leaf b)) e = refl
no_uuid (described d) e = refl
no_uuid (node (super wide d us)) e = absurd (cc (e))

-- a box without a description has no type UUID
pub uuid_missing : (b : AnyBox) → any_description b ≡ None → None ≡ any_uuid b
uuid_missing b e = sym (no_uuid b e)

-- the type UUID of a box is that of its description
some_uuid : (b : AnyBox) (d : Description) → any_description b ≡ Some d → any_uuid b ≡ Some d.uuid
some_uuid (node (leaf b)) d e = absurd (cc (e))
some_uuid (described f) d e = absurd (cc (e))
some_uuid (node (super wide f us)) d e = let same : f ≡ d = cc (e) in ap (λ (x : Description). Some x.uuid) same

-- the payload of a description has 17 bytes at least
pub payload_long : (b : AnyBox) (payload : List ℕ) → IsPayload b payload → 17 ≤ length payload
payload_long b payload p =
    let d : Description = p.description in
    let n : length payload ≡ length d.uuid + suc (length (label_bytes d.label ++ (fixed_bytes d.id ++ (fixed_bytes d.digest ++ private_bytes d.private)))) =
    ap length (p.bytes ∙ desc_split d) ∙ length-append d.uuid _ in
    omega (arith, n, p.legal.fields.uuid)

-- the first 16 bytes of that payload are the type UUID
pub uuid_here : (b : AnyBox) (payload uuid : List ℕ) → IsPayload b payload → uuid ≡ take 16 payload
    → Some uuid ≡ any_uuid b
uuid_here b payload uuid p e =
    ap Some
    (e ∙ sym (front_same payload p.description.uuid _ 16 p.legal.fields.uuid (p.bytes ∙ desc_split p.description)))
    ∙ sym (some_uuid b p.description p.own)

-- the label
no_label : (b : AnyBox) → any_description b ≡ None → any_label b ≡ None
no_label (node (leaf b)) e = refl
no_label (described d) e = refl
no_label (node (super wide d us)) e = absurd (cc (e))

-- a box without a description has no label
pub label_missing : (b : AnyBox) → any_description b ≡ None → None ≡ any_label b
label_missing b e = sym (no_label b e)

-- the label of a box is that of its description
some_label : (b : AnyBox) (d : Description) → any_description b ≡ Some d → any_label b ≡ d.label
some_label (node (leaf b)) d e = absurd (cc (e))
some_label (described f) d e = absurd (cc (e))
some_label (node (super wide f us)) d e = let same : f ≡ d = cc (e) in ap (λ (x : Description). x.label) same

-- the label that is read after the toggles is the box's label
pub label_here : (b : AnyBox) (payload bytes rest : List ℕ) (label : Option (List ℕ)) → IsPayload b payload
    → bytes ≡ drop 17 payload → IsLabelPart (is_set 2 payload) bytes label rest → label ≡ any_label b
label_here b payload bytes rest label p from q =
    (label_once (is_set 2 payload) (drop 17 payload) label p.description.label rest _ (subst (λ (x : List ℕ). IsLabelPart (is_set 2 payload) x label rest) from q) (own_label payload p.description p.legal.fields p.bytes)).0
    ∙ sym (some_label b p.description p.own)

-- the label field of a legal description has no fault
pub label_not_bad : (b : AnyBox) (payload bytes : List ℕ) → IsPayload b payload → bytes ≡ drop 17 payload
    → is_set 2 payload ≡ true → LabelFault bytes → ⊥
label_not_bad b payload bytes p from is_on f =
    no_fields payload (DescriptionFault.bad_label is_on (subst LabelFault from f)) p.description p.legal.fields p.bytes
