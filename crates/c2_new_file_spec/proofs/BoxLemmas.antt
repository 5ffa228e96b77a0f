-- Boxes as they are written are legal, and how long they are.
use Rattle.std.proofs.Common.{◌≡◌, ◌≢◌, ℕ, ◌+◌, ◌^◌, ◌<◌, ◌≤◌, Bool, true, ◌&&◌, List, [], ◌∷◌, ◌++◌, length, Option, Some, None, sym, ap, ◌∙◌, arith, length-append, lit<}
use Rattle.std.specs.Prelude.{nat_lt, nat_le}
use Rattle.std.specs.List.{AllByRecursion, list_all}
use Rattle.std.specs.Int.{w32, from_be_bytes}
use Rattle.std.specs.Str.{IsAscii}
use Rattle.std.proofs.lemmas.Bool.{and_parts, ltb-true, leb-true}
use Rattle.std.proofs.lemmas.Str.{IsUtf8-from_ascii}
use Rattle.std.proofs.lemmas.Str.Ascii.{IsAscii-nil, IsAscii-cons}
use Rattle.c2_spec.specs.Jumbf.Tree.{Description, IsDescription, IsLabel, IsLabelByte, description_payload, description_bytes, Tree, Trees, none, more, tree_bytes, trees_bytes, tree_label, tree_labels, IsNewLabel, AreDistinctLabels, IsLegalTree, AreLegalTrees}
use Rattle.c2_spec.specs.declared.kinds.TheConstants.{JUMB}
use Rattle.c2_spec.specs.Jumbf.Writing.{fresh_description}
use Rattle.c2_spec.specs.C2pa.Manifest.{type_uuid}
use Rattle.c2_new_file_spec.specs.FreshBoxes.{fresh_leaf, fresh_box, trees_then}
use Rattle.c2_spec.proofs.Openings.{payload_size}

-- ---- labels of letters

-- a byte of ASCII that is no control byte
abbrev pub is_plain_byte : ℕ → Bool
is_plain_byte b = nat_le 0x20 b && nat_lt b 0x7F

-- a text of such bytes is ASCII, and each of them may stand in a label
ascii : (bs : List ℕ) → list_all is_plain_byte bs ≡ true → IsAscii bs × AllByRecursion IsLabelByte bs
ascii [] h = (IsAscii-nil, tt)
ascii (b ∷ bs) h =
    let both = and_parts (is_plain_byte b) (list_all is_plain_byte bs) h in
    let own = and_parts (nat_le 0x20 b) (nat_lt b 0x7F) both.0 in
    let low : 0x20 ≤ b = leb-true 0x20 b own.0 in
    let high : b < 0x7F = ltb-true b 0x7F own.1 in
    let more = ascii bs both.1 in
    (IsAscii-cons b bs (omega arith) more.0, ((low, λ e. omega (arith, e, high)), more.1))

-- a text of such bytes is a label
pub plain_label : (bs : List ℕ) → list_all is_plain_byte bs ≡ true → IsLabel bs
plain_label bs h = let r = ascii bs h in (IsUtf8-from_ascii bs r.0, r.1)

-- ---- sizes

-- a superbox takes 34 bytes, its label and its boxes
pub fresh_len : (name label : List ℕ) (boxes : Trees) → length name ≡ 4
    → length (tree_bytes (fresh_box name label boxes)) ≡ 34 + length label + length (trees_bytes boxes)
fresh_len name label boxes n =
    let d : Description = fresh_description (type_uuid name) label in
    let u : length (type_uuid name) ≡ 16 = length-append name _ ∙ ap (λ k. k + 12) n in
    let p : length (description_payload d) ≡ 18 + length label = payload_size (type_uuid name) label u in
    let all : length (description_bytes d ++ trees_bytes boxes) ≡ length (description_bytes d) + length (trees_bytes boxes) =
    length-append (description_bytes d) (trees_bytes boxes) in
    let own : length (description_bytes d) ≡ 8 + length (description_payload d) = omega arith in
    omega (arith, all, own, p)

-- ---- legal

-- a box of bytes is legal at any depth, where its kind and its length fit into 4 bytes and it isn't of the superboxes' kind
pub leaf_legal : (depth : ℕ) (kind bytes : List ℕ) → from_be_bytes w32 kind < 2 ^ 32 → (from_be_bytes w32 kind ≢ JUMB)
    → 8 + length bytes < 2 ^ 32 → IsLegalTree depth (fresh_leaf kind bytes)
leaf_legal depth kind bytes small other fits = (record { type = small; total = fits }, other)

-- the description of a new box is legal, where its label is one and isn't too long
pub fresh_described : (name label : List ℕ) → length name ≡ 4 → IsLabel label → 34 + length label < 2 ^ 32
    → IsDescription (fresh_description (type_uuid name) label)
fresh_described name label n legal fits =
    let u : length (type_uuid name) ≡ 16 = length-append name _ ∙ ap (λ k. k + 12) n in
    record {
      fields = record { uuid = u; label = legal; id = tt; digest = tt; private = tt };
      fits = record { type = lit< tt; total = omega (arith, payload_size (type_uuid name) label u, fits) };
    }

-- a new box is legal, where its boxes are, their labels differ, and it is neither too deep nor too long
pub fresh_legal : (depth : ℕ) (name label : List ℕ) (boxes : Trees) → depth ≤ 16 → length name ≡ 4 → IsLabel label
    → length (tree_bytes (fresh_box name label boxes)) < 2 ^ 32
    → AreLegalTrees (depth + 1) boxes → AreDistinctLabels (tree_labels boxes)
    → IsLegalTree depth (fresh_box name label boxes)
fresh_legal depth name label boxes deep n legal fits each distinct = (
  deep,
  fresh_described name label n legal (omega (arith, fresh_len name label boxes n, fits)),
  record { type = lit< tt; total = omega (arith, fits) },
  each,
  distinct,
)

-- ---- lists of boxes

-- boxes and one more behind them take the bytes of both
pub then_len : (boxes : Trees) (t : Tree)
    → length (trees_bytes (trees_then boxes t)) ≡ length (trees_bytes boxes) + length (tree_bytes t)
then_len none t = omega (arith, length-append (tree_bytes t) [])
then_len (more s ss) t = let h = then_len ss t in omega (arith, h, length-append (tree_bytes s) (trees_bytes (trees_then ss t)), length-append (tree_bytes s) (trees_bytes ss))

-- legal boxes and a legal one behind them are legal
pub then_legal : (depth : ℕ) (boxes : Trees) (t : Tree) → AreLegalTrees depth boxes → IsLegalTree depth t
    → AreLegalTrees depth (trees_then boxes t)
then_legal depth none t h k = (k, tt)
then_legal depth (more s ss) t h k = (h.0, then_legal depth ss t h.1 k)

-- what holds of each label of some boxes, and of that of one more, holds of each label of all of them
all_push : (P : Option (List ℕ) → Type 0) (boxes : Trees) (t : Tree) → AllByRecursion P (tree_labels boxes)
    → P (tree_label t) → AllByRecursion P (tree_labels (trees_then boxes t))
all_push P none t h k = (k, tt)
all_push P (more s ss) t h k = (h.0, all_push P ss t h.1 k)

-- a label that is new among boxes, and that one more behind them doesn't have, is new among all of them
new_push : (label : Option (List ℕ)) (boxes : Trees) (t : Tree) → IsNewLabel label (tree_labels boxes)
    → (label ≡ tree_label t → label ≡ None) → IsNewLabel label (tree_labels (trees_then boxes t))
new_push None boxes t h k = tt
new_push (Some l) boxes t h k = all_push (λ o. o ≢ Some l) boxes t h (λ e. cc (k (sym e)))

-- of labels that differ, each is new among those behind it
pub then_distinct : (boxes : Trees) (t : Tree) (label : List ℕ) → tree_label t ≡ Some label
    → AreDistinctLabels (tree_labels boxes) → IsNewLabel (Some label) (tree_labels boxes)
    → AreDistinctLabels (tree_labels (trees_then boxes t))
then_distinct none t label e h k = (nothing (tree_label t), tt)
  where
    nothing : (o : Option (List ℕ)) → IsNewLabel o []
    nothing None = tt
    nothing (Some l) = tt
then_distinct (more s ss) t label e h k =
    (new_push (tree_label s) ss t h.0 (λ same. absurd (k.0 (same ∙ e))), then_distinct ss t label e h.1 k.1)
