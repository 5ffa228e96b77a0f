-- A superbox up to its label.
use Rattle.std.proofs.Common.{◌≡◌, ◌≢◌, ℕ, ◌+◌, ◌-◌, ◌^◌, ◌<◌, ◌≤◌, List, [], ◌∷◌, ◌++◌, length, take, drop, Option, Some, None, refl, sym, ap, ◌∙◌, subst, append_assoc, arith}
use Rattle.std.proofs.lemmas.List.{length-drop, drop-take, drop-drop, length-take-le, append-nil}
use Rattle.c2_spec.specs.declared.kinds.TheConstants.{JUMB, JUMD}
use Rattle.c2_spec.specs.declared.jumbf.JumbfError.{JumbfError}
use Rattle.c2_spec.specs.declared.jumbf.JumbfError.TheVariants.{TooDeep, NoDescription, BadDescription, DuplicateLabel}
use Rattle.c2_spec.specs.Jumbf.Tree.{Description, IsDescription, description_payload, description_bytes, FitsHead, head_len, boxed, IsNewLabel}
use Rattle.c2_spec.specs.Jumbf.Faults.{tells_wide, told_payload, box_head_fault, TreeFault, IsSuperbox, DescriptionFault}
use Rattle.c2_spec.proofs.JumbfHeads.{good_at}
use Rattle.c2_jumbf.specs.declared.rows.Row.{Row}
use Rattle.c2_jumbf.specs.declared.front.Front.{Front}
use Rattle.c2_jumbf.specs.declared.fields.Fields.{Fields}
use Rattle.c2_jumbf.specs.Heads.{IsHead}
use Rattle.c2_jumbf.specs.Fields.{HasFields, read_label}
use Rattle.c2_jumbf.specs.Labels.{Mark, own_marks}
use Rattle.c2_jumbf.specs.Flat.{Opened, FaultAt}
use Rattle.c2_jumbf.proofs.HeadLaws.{front_fits, front_whole, front_box}
use Rattle.c2_lemmas.proofs.Bytes.{AreBytes, bytes-drop, bytes-take}

-- the payload of a superbox, as the code takes it
pub payload_is : (region : List ℕ) (h : Front) → IsHead region h
    → take (h.total - h.header) (drop h.header region) ≡ told_payload region
payload_is region h k =
    let e : h.total ≡ h.header + (h.total - h.header) = omega (arith, k.least) in
    sym (drop-take h.header (h.total - h.header) region) ∙ ap (λ n. drop h.header (take n region)) (sym e)
    ∙ ap (λ n. drop n (take h.total region)) k.header
    ∙ ap (λ n. drop (head_len (tells_wide region)) (take n region)) k.total

-- the payload is as long as the box without its header
pub payload_length : (region : List ℕ) (h : Front) → IsHead region h
    → length (take (h.total - h.header) (drop h.header region)) ≡ h.total - h.header
payload_length region h k =
    length-take-le (h.total - h.header) (drop h.header region)
    (omega (arith, length-drop h.header region, k.inside, k.least))

-- a header of type `jumb` at an allowed depth is that of a superbox
superbox : (region : List ℕ) (h : Front) (depth : ℕ) → IsHead region h → h.kind ≡ JUMB → depth ≤ 16
    → IsSuperbox depth region
superbox region h depth k kind deep = record { head = k.good; kind = sym k.kind ∙ kind; deep = deep }

-- a superbox at a greater depth is too deep
pub open_deep : (region : List ℕ) (h : Front) (depth at : ℕ) (earlier : List (Option (List ℕ))) → IsHead region h
    → h.kind ≡ JUMB → 16 < depth → TreeFault earlier depth at region (TooDeep at)
open_deep region h depth at earlier k kind deep =
    TreeFault.too_deep (good_at 0 at region k.good) (sym k.kind ∙ kind) deep

-- a superbox with an empty payload has no description
pub open_empty : (region : List ℕ) (h : Front) (depth at : ℕ) (earlier : List (Option (List ℕ))) → IsHead region h
    → h.kind ≡ JUMB → depth ≤ 16 → length (take (h.total - h.header) (drop h.header region)) ≡ 0
    → TreeFault earlier depth at region (NoDescription at)
open_empty region h depth at earlier k kind deep none = TreeFault.empty (superbox region h depth k kind deep) (nil (told_payload region) (ap length (sym (payload_is region h k)) ∙ none))
  where
    nil : (xs : List ℕ) → length xs ≡ 0 → xs ≡ []
    nil [] e = refl
    nil (x ∷ xs) e = absurd (omega arith)

-- where the header of the first box inside has a fault, that is the fault
pub open_head : (region : List ℕ) (h : Front) (depth at place : ℕ) (earlier : List (Option (List ℕ))) (e : JumbfError)
    → IsHead region h → h.kind ≡ JUMB → depth ≤ 16 → 0 < length (take (h.total - h.header) (drop h.header region))
    → place ≡ at + h.header → box_head_fault place (take (h.total - h.header) (drop h.header region)) ≡ Some e
    → TreeFault earlier depth at region e
open_head region h depth at place earlier e k kind deep some where_is fails =
    let same : length (take (h.total - h.header) (drop h.header region)) ≡ length (told_payload region) =
    ap length (payload_is region h k) in
    TreeFault.child_head (superbox region h depth k kind deep) (omega (arith, some, same))
    (ap (λ n. box_head_fault (at + n) (told_payload region)) (sym k.header) ∙ ap (λ n. box_head_fault n (told_payload region)) (sym where_is) ∙ ap (box_head_fault place) (sym (payload_is region h k)) ∙ fails)

-- a first box of another type than `jumd` is no description
pub open_kind : (region : List ℕ) (h own : Front) (depth at : ℕ) (earlier : List (Option (List ℕ))) → IsHead region h
    → h.kind ≡ JUMB → depth ≤ 16 → IsHead (take (h.total - h.header) (drop h.header region)) own → own.kind ≢ JUMD
    → TreeFault earlier depth at region (NoDescription at)
open_kind region h own depth at earlier k kind deep first other =
    let f : IsHead (told_payload region) own = subst (λ (x : List ℕ). IsHead x own) (payload_is region h k) first in
    TreeFault.no_description (superbox region h depth k kind deep) (good_at 0 at (told_payload region) f.good)
    (λ e. other (f.kind ∙ e))

-- where the first box has a fault of its description, that is the fault
pub open_fields : (region : List ℕ) (h own : Front) (depth at place : ℕ) (earlier : List (Option (List ℕ)))
    → IsHead region h → h.kind ≡ JUMB → depth ≤ 16 → IsHead (take (h.total - h.header) (drop h.header region)) own
    → own.kind ≡ JUMD
    → place ≡ at + h.header
    → DescriptionFault (take (own.total - own.header) (drop own.header (take (h.total - h.header) (drop h.header region))))
    → TreeFault earlier depth at region (BadDescription place)
open_fields region h own depth at place earlier k kind deep first named where_is none =
    let f : IsHead (told_payload region) own = subst (λ (x : List ℕ). IsHead x own) (payload_is region h k) first in
    let inner : take (own.total - own.header) (drop own.header (take (h.total - h.header) (drop h.header region))) ≡ told_payload (told_payload region) =
    ap (λ (x : List ℕ). take (own.total - own.header) (drop own.header x)) (payload_is region h k)
    ∙ payload_is (told_payload region) own f in
    subst (λ n. TreeFault earlier depth at region (BadDescription n)) (sym (where_is ∙ ap (λ n. at + n) k.header))
    (TreeFault.bad_description (superbox region h depth k kind deep) (good_at 0 at (told_payload region) f.good) (sym f.kind ∙ named) (subst DescriptionFault inner none))

-- The description that was read.
pub record IsRead (region : List ℕ) (h own : Front) (f : Fields) : Type 0 where
  pub description : Description
  pub legal : IsDescription description
  pub size : own.total ≡ length (description_bytes description)
  pub inside : h.header + own.total ≤ h.total
  pub bytes : told_payload region ≡ description_bytes description ++ drop (h.header + own.total) (take h.total region)
  pub label : description.label ≡ read_label f
  pub wide : head_len description.wide ≡ own.header

-- a description whose fields were read is the one that the superbox begins with
pub is_read : (region : List ℕ) (h own : Front) (f : Fields) → AreBytes region → length region < 2 ^ 64
    → IsHead region h → IsHead (take (h.total - h.header) (drop h.header region)) own → own.kind ≡ JUMD
    → HasFields (take (own.total - own.header) (drop own.header (take (h.total - h.header) (drop h.header region)))) f
    → IsRead region h own f
is_read region h own f bytes small k first named has = record { description = d; legal = legal; size = size; inside = inside; bytes = spelled_front; label = has.label; wide = sym first.header }
  where
    payload : List ℕ
    payload = take (h.total - h.header) (drop h.header region)

    payload_bytes : AreBytes payload
    payload_bytes = bytes-take (h.total - h.header) (drop h.header region) (bytes-drop h.header region bytes)

    d : Description
    d =
        record
        { wide = tells_wide payload; uuid = has.description.uuid; requestable = has.description.requestable; label = has.description.label; id = has.description.id; digest = has.description.digest; private = has.description.private }

    content : told_payload payload ≡ description_payload d
    content = sym (payload_is payload own first) ∙ has.bytes

    size_is : length payload ≡ h.total - h.header
    size_is = payload_length region h k

    fits : FitsHead JUMD (tells_wide payload) (length (description_payload d))
    fits =
        subst (λ (x : List ℕ). FitsHead JUMD (tells_wide payload) (length x)) content
        (subst (λ n. FitsHead n (tells_wide payload) (length (told_payload payload))) (sym first.kind ∙ named) (front_fits payload own payload_bytes (omega (arith, size_is, small, k.inside)) first))

    legal : IsDescription d
    legal =
        record
        { fields = record { uuid = has.legal.uuid; label = has.legal.label; id = has.legal.id; digest = has.legal.digest; private = has.legal.private }; fits = fits }

    front : take own.total payload ≡ description_bytes d
    front =
        front_box payload own payload_bytes first
        ∙ ap (λ n. boxed n (tells_wide payload) (told_payload payload)) (sym first.kind ∙ named)
        ∙ ap (boxed JUMD (tells_wide payload)) content

    size : own.total ≡ length (description_bytes d)
    size = sym (length-take-le own.total payload first.inside) ∙ ap length front

    inside : h.header + own.total ≤ h.total
    inside = omega (arith, first.inside, size_is, k.least)

    behind : drop own.total payload ≡ drop (h.header + own.total) (take h.total region)
    behind =
        let e : h.total ≡ h.header + (h.total - h.header) = omega (arith, k.least) in
        ap (drop own.total)
        (sym (drop-take h.header (h.total - h.header) region) ∙ ap (λ n. drop h.header (take n region)) (sym e))
        ∙ drop-drop own.total h.header (take h.total region)

    spelled_front : told_payload region ≡ description_bytes d ++ drop (h.header + own.total) (take h.total region)
    spelled_front = sym (payload_is region h k) ∙ front_whole payload own payload_bytes first ∙ ap (λ n. boxed n (tells_wide payload) (told_payload payload) ++ drop own.total payload) (sym first.kind ∙ named)
        ∙ ap (λ (x : List ℕ). boxed JUMD (tells_wide payload) x ++ drop own.total payload) content
        ∙ ap (λ (x : List ℕ). description_bytes d ++ x) behind

-- the label stood among earlier siblings
pub open_twice : (region : List ℕ) (h own : Front) (f : Fields) (depth at : ℕ) (earlier : List (Option (List ℕ)))
    → AreBytes region → length region < 2 ^ 64 → IsHead region h → h.kind ≡ JUMB → depth ≤ 16
    → IsHead (take (h.total - h.header) (drop h.header region)) own → own.kind ≡ JUMD
    → HasFields (take (own.total - own.header) (drop own.header (take (h.total - h.header) (drop h.header region)))) f
    → (IsNewLabel (read_label f) earlier → ⊥) → TreeFault earlier depth at region (DuplicateLabel at)
open_twice region h own f depth at earlier bytes small k kind deep first named fields old_label =
    let r : IsRead region h own f = is_read region h own f bytes small k first named fields in
    TreeFault.same_label r.description (drop (h.header + own.total) (take h.total region))
    (record { superbox = superbox region h depth k kind deep; description = r.legal; payload = r.bytes })
    (subst (λ o. IsNewLabel o earlier → ⊥) (sym r.label) old_label)

-- the superbox is open
pub opened :
    (region : List ℕ) (h own : Front) (f : Fields) (before after : List Mark) (depth at place index : ℕ)
    (old mid new : List Row)
    → AreBytes region → length region < 2 ^ 64 → IsHead region h → depth ≤ 16
    → IsHead (take (h.total - h.header) (drop h.header region)) own → own.kind ≡ JUMD
    → HasFields (take (own.total - own.header) (drop own.header (take (h.total - h.header) (drop h.header region)))) f
    → h.kind ≡ JUMB → after ≡ before ++ own_marks at (read_label f)
    → mid ≡ old ++ record { place = at; total = h.total; after = index; header = h.header; depth = depth } ∷ []
    → new ≡ mid ++ record { place = place; total = own.total; after = index + 2; header = own.header; depth = depth + 1 } ∷ []
    → place ≡ at + h.header → index ≡ length old → Opened depth at region h before after old new own.total
opened region h own f before after depth at place index old mid new bytes small k deep first named fields kind marked one two where_is index_is =
    let r : IsRead region h own f = is_read region h own f bytes small k first named fields in
    let two_more : length old + 2 ≡ length old + 1 + 1 = omega arith in
    record {
      description = r.description;
      deep = deep;
      legal = r.legal;
      size = r.size;
      inside = r.inside;
      bytes = r.bytes;
      marked = subst (λ o. after ≡ before ++ own_marks at o) (sym r.label) marked;
      duplicate =
          λ earlier old_label. open_twice region h own f depth at earlier bytes small k kind deep first named fields (subst (λ o. IsNewLabel o earlier → ⊥) r.label old_label);
      added = two ∙ ap (λ (x : List Row). x ++ record { place = place; total = own.total; after = index + 2; header = own.header; depth = depth + 1 } ∷ []) one
          ∙ append_assoc old
          (record { place = at; total = h.total; after = index; header = h.header; depth = depth } ∷ [])
          (record { place = place; total = own.total; after = index + 2; header = own.header; depth = depth + 1 } ∷ [])
          ∙ ap
          (λ n. old ++ record { place = at; total = h.total; after = index; header = h.header; depth = depth } ∷ record { place = n; total = own.total; after = index + 2; header = own.header; depth = depth + 1 } ∷ [])
          where_is
          ∙ ap
          (λ n. old ++ record { place = at; total = h.total; after = n; header = h.header; depth = depth } ∷ record { place = at + h.header; total = own.total; after = n + 2; header = own.header; depth = depth + 1 } ∷ [])
          index_is
          ∙ ap
          (λ n. old ++ record { place = at; total = h.total; after = length old; header = h.header; depth = depth } ∷ record { place = at + h.header; total = own.total; after = length old + 2; header = n; depth = depth + 1 } ∷ [])
          (sym r.wide)
          ∙ ap (λ n. old ++ record { place = at; total = h.total; after = length old; header = h.header; depth = depth } ∷ record { place = at + h.header; total = own.total; after = n; header = head_len r.description.wide; depth = depth + 1 } ∷ []) two_more;
    }

-- a fault before the label is read, whatever the labels of earlier siblings
pub unlabelled_fault : (region : List ℕ) (depth at : ℕ) (ms : List Mark) (e : JumbfError)
    → ((earlier : List (Option (List ℕ))) → TreeFault earlier depth at region e) → FaultAt depth at region ms ms e
unlabelled_fault region depth at ms e fails =
    record
    { label = None; marked = sym (append-nil ms); inside = λ earlier _. fails earlier; duplicate = λ earlier never. absurd (never tt) }
