-- Pieces that are written one behind the other are the text of the whole.
use Rattle.std.proofs.Common.{◌≡◌, refl, sym, ◌∙◌, ap, ℕ, zero, suc, ◌+◌, Bool, true, false, List, [], ◌∷◌, ◌++◌, map, drop, codes, decimal, Option, Some, None, slice_get, add-one, append_assoc, append-nil}
use Rattle.std.proofs.lemmas.List.{map-append}
use Rattle.std.specs.List.{filter_map}
use Rattle.std.specs.Option.{option_map, option_and_then}
use Rattle.hex.specs.Hex.{encode_lower}
use Rattle.serde_json.proofs.OnLiterals.{serde_json_on_literals}
use Rattle.serde_json.specs.Data.{Data, boolean, string, array, object, no_members, member}
use Rattle.serde_json.specs.View.{items_of}
use Rattle.serde_json.specs.Written.{items_text, comma_if, compact_text}
use Rattle.c2_spec.specs.Jumbf.Tree.{Tree}
use Rattle.c2_spec.specs.Jumbf.Boxes.{box_at, any_label}
use Rattle.c2_spec.specs.C2pa.Manifest.{Manifest, superbox_at, manifest_at, manifests_of, store_of}
use Rattle.c2_spec.specs.declared.cbor.Ref.{Ref}
use Rattle.c2_spec.specs.declared.claim.Claim.{Claim}
use Rattle.c2_spec.specs.declared.store.ManifestBoxes.{ManifestBoxes}
use Rattle.c2_rules.specs.Claims.{active_of}
use Rattle.c2_texts.specs.Items.{items_inside}
use Rattle.c2_texts.specs.Show.{text_or_null, entry_data, claim_data, claim_or_null, sized_data, box_data, manifest_data, manifests_data, active_data, show_line}

-- ---- arrays

-- the items of an array with its closing bracket are those without it and then the bracket
items_end : (later : Bool) (ds : List Data) → items_text later (items_of ds) ≡ items_inside later ds ++ 93 ∷ []
items_end later [] = refl
items_end later (d ∷ ds) = simp (items_end true ds, append_assoc) refl

-- an array behind what is there and this text
pub array_written : (p o0 o1 o2 o3 : List ℕ) (ds : List Data) → o1 ≡ o0 ++ (p ++ 91 ∷ [])
    → o2 ≡ o1 ++ items_inside false ds → o3 ≡ o2 ++ 93 ∷ [] → o3 ≡ o0 ++ (p ++ compact_text (array (items_of ds)))
array_written p o0 o1 o2 o3 ds e f g =
    let ends = items_end false ds in
    simp (g, f, e, ends, append_assoc) refl

-- one item more
pub item_step : (o0 o1 w : List ℕ) (later : Bool) (d : Data) (rest : List Data)
    → o0 ++ items_inside later (d ∷ rest) ≡ w → o1 ≡ o0 ++ (comma_if later ++ compact_text d)
    → o1 ++ items_inside true rest ≡ w
item_step o0 o1 w later d rest h e =
    let sides : (o0 ++ (comma_if later ++ compact_text d)) ++ items_inside true rest ≡ o0 ++ (comma_if later ++ (compact_text d ++ items_inside true rest)) =
    simp (append_assoc) refl in
    ap (λ x. x ++ items_inside true rest) e ∙ sides ∙ h

-- the entries of a claim, written by two calls, are one array
pub assertions_written : (xs ys : List Ref) (o0 o1 oa ob o3 : List ℕ) (la lb : Bool)
    → o1 ≡ o0 ++ codes ",\"assertions\":["
    → ((rest : List Data) → oa ++ items_inside la rest ≡ o1 ++ items_inside false (map entry_data xs ++ rest))
    → ((rest : List Data) → ob ++ items_inside lb rest ≡ oa ++ items_inside la (map entry_data ys ++ rest))
    → o3 ≡ ob ++ 93 ∷ []
    → o3 ≡ o0 ++ (codes ",\"assertions\":" ++ compact_text (array (items_of (map entry_data (xs ++ ys)))))
assertions_written xs ys o0 o1 oa ob o3 la lb e a b f =
    let all : map entry_data xs ++ (map entry_data ys ++ []) ≡ map entry_data (xs ++ ys) =
    ap (λ ds. map entry_data xs ++ ds) (append-nil (map entry_data ys)) ∙ sym (map-append entry_data xs ys) in
    let inside : ob ≡ o1 ++ items_inside false (map entry_data (xs ++ ys)) =
    sym (append-nil ob) ∙ b [] ∙ a (map entry_data ys ++ []) ∙ ap (λ ds. o1 ++ items_inside false ds) all in
    array_written (codes ",\"assertions\":") o0 o1 ob o3 (map entry_data (xs ++ ys)) e inside f

-- ---- objects

-- a number behind a text, and the closing brace, behind what is there, a comma or nothing, and a member
two : (p0 p1 p2 t1 t2 o0 o1 o2 o3 : List ℕ) → o1 ≡ o0 ++ p0 → o2 ≡ o1 ++ (p1 ++ t1)
    → o3 ≡ o2 ++ (p2 ++ (t2 ++ 125 ∷ [])) → o3 ≡ o0 ++ (p0 ++ (p1 ++ (t1 ++ (p2 ++ (t2 ++ 125 ∷ [])))))
two p0 p1 p2 t1 t2 o0 o1 o2 o3 a b c = simp (c, b, a, append_assoc) refl

-- a label, a size and the closing brace, written one behind the other, are the text of a labelled box
pub sized_written : (size : ℕ) (label : List ℕ) (later : Bool) (o0 o1 o2 o3 : List ℕ) → o1 ≡ o0 ++ comma_if later
    → o2 ≡ o1 ++ (codes "{\"label\":" ++ compact_text (string label))
    → o3 ≡ o2 ++ (codes ",\"size\":" ++ (decimal size ++ codes "}"))
    → o3 ≡ o0 ++ (comma_if later ++ compact_text (sized_data size label))
unfolding serde_json_on_literals
sized_written size label later o0 o1 o2 o3 a b c =
    two (comma_if later) (codes "{\"label\":") (codes ",\"size\":") (compact_text (string label)) (decimal size)
    o0 o1 o2 o3 a b c

-- three members and the closing brace, behind what is there and a comma or nothing
three : (p0 p1 p2 p3 t1 t2 t3 o0 o1 o2 o3 o4 o5 : List ℕ) → o1 ≡ o0 ++ p0 → o2 ≡ o1 ++ (p1 ++ t1)
    → o3 ≡ o2 ++ (p2 ++ t2) → o4 ≡ o3 ++ (p3 ++ t3) → o5 ≡ o4 ++ 125 ∷ []
    → o5 ≡ o0 ++ (p0 ++ (p1 ++ (t1 ++ (p2 ++ (t2 ++ (p3 ++ (t3 ++ 125 ∷ [])))))))
three p0 p1 p2 p3 t1 t2 t3 o0 o1 o2 o3 o4 o5 a b c d e = simp (e, d, c, b, a, append_assoc) refl

-- an entry's three members and the closing brace, written one behind the other, are the text of the entry
pub entry_written : (r : Ref) (later : Bool) (o0 o1 o2 o3 o4 o5 : List ℕ) → o1 ≡ o0 ++ comma_if later
    → o2 ≡ o1 ++ (codes "{\"alg\":" ++ compact_text (text_or_null r.alg))
    → o3 ≡ o2 ++ (codes ",\"hash\":" ++ compact_text (string (encode_lower r.hash)))
    → o4 ≡ o3 ++ (codes ",\"url\":" ++ compact_text (string r.url))
    → o5 ≡ o4 ++ 125 ∷ [] → o5 ≡ o0 ++ (comma_if later ++ compact_text (entry_data r))
unfolding serde_json_on_literals
entry_written r later o0 o1 o2 o3 o4 o5 a b c d e =
    three (comma_if later) (codes "{\"alg\":") (codes ",\"hash\":") (codes ",\"url\":")
    (compact_text (text_or_null r.alg)) (compact_text (string (encode_lower r.hash))) (compact_text (string r.url))
    o0 o1 o2 o3 o4 o5 a b c d e

-- four members and the closing brace
four : (p1 p2 p3 p4 t1 t2 t3 t4 o0 o1 o2 o3 o4 o5 : List ℕ) → o1 ≡ o0 ++ (p1 ++ t1) → o2 ≡ o1 ++ (p2 ++ t2)
    → o3 ≡ o2 ++ (p3 ++ t3) → o4 ≡ o3 ++ (p4 ++ t4) → o5 ≡ o4 ++ 125 ∷ []
    → o5 ≡ o0 ++ (p1 ++ (t1 ++ (p2 ++ (t2 ++ (p3 ++ (t3 ++ (p4 ++ (t4 ++ 125 ∷ []))))))))
four p1 p2 p3 p4 t1 t2 t3 t4 o0 o1 o2 o3 o4 o5 a b c d e = simp (e, d, c, b, a, append_assoc) refl

-- a claim's four members and the closing brace, written one behind the other, are the text of the claim
pub claim_written : (c : Claim) (o0 o1 o2 o3 o4 o5 : List ℕ)
    → o1 ≡ o0 ++ (codes "{\"alg\":" ++ compact_text (text_or_null c.alg))
    → o2 ≡ o1 ++ (codes ",\"assertions\":" ++ compact_text (array (items_of (map entry_data (c.created ++ c.gathered)))))
    → o3 ≡ o2 ++ (codes ",\"instanceID\":" ++ compact_text (text_or_null c.instance))
    → o4 ≡ o3 ++ (codes ",\"redacted\":" ++ compact_text (array (items_of (map string c.redacted))))
    → o5 ≡ o4 ++ 125 ∷ [] → o5 ≡ o0 ++ compact_text (claim_data c)
unfolding serde_json_on_literals
claim_written c o0 o1 o2 o3 o4 o5 a b d e f =
    four (codes "{\"alg\":") (codes ",\"assertions\":") (codes ",\"instanceID\":") (codes ",\"redacted\":")
    (compact_text (text_or_null c.alg)) (compact_text (array (items_of (map entry_data (c.created ++ c.gathered)))))
    (compact_text (text_or_null c.instance)) (compact_text (array (items_of (map string c.redacted))))
    o0 o1 o2 o3 o4 o5 a b d e f

-- what was written of a manifest's parts is the text of the manifest at this place, with its claim
of_parts : (t : Tree) (boxes : List ℕ) (label : List ℕ) (update : Bool) (claim : Option Claim) (o0 o5 : List ℕ) (m : Option ManifestBoxes)
    → Some boxes ≡ option_map (λ (m : ManifestBoxes). m.assertions) m
    → Some label ≡ option_and_then (λ (m : ManifestBoxes). any_label (box_at t m.whole).box) m
    → Some update ≡ option_map (λ (m : ManifestBoxes). m.is_update) m
    → o5 ≡ o0 ++ compact_text (object (member (codes "boxes") (array (items_of (filter_map box_data (map (superbox_at t) boxes)))) (member (codes "claim") (claim_or_null claim) (member (codes "label") (string label) (member (codes "update") (boolean update) no_members)))))
    → Some o5 ≡ option_map (λ (m : ManifestBoxes). o0 ++ compact_text (manifest_data (manifest_at t m) claim)) m
of_parts t boxes label update claim o0 o5 None a b c e = absurd (cc (a))
of_parts t boxes label update claim o0 o5 (Some m) a b c e =
    let boxes_are : boxes ≡ m.assertions = cc (a) in
    let update_is : update ≡ m.is_update = cc (c) in
    let data_is : object (member (codes "boxes") (array (items_of (filter_map box_data (map (superbox_at t) boxes))))
    (member (codes "claim") (claim_or_null claim) (member (codes "label") (string label) (member (codes "update") (boolean update) no_members)))) ≡ manifest_data (manifest_at t m) claim =
    simp (boxes_are, update_is, ← b) refl in
    ap Some (e ∙ ap (λ (x : Data). o0 ++ compact_text x) data_is)

-- a manifest's four members and the closing brace, one behind the other, are the text of the manifest
pub manifest_written : (t : Tree) (boxes : List ℕ) (label : List ℕ) (update : Bool) (claim : Option Claim) (o0 o1 o2 o3 o4 o5 : List ℕ) (m : Option ManifestBoxes)
    → Some boxes ≡ option_map (λ (m : ManifestBoxes). m.assertions) m
    → Some label ≡ option_and_then (λ (m : ManifestBoxes). any_label (box_at t m.whole).box) m
    → Some update ≡ option_map (λ (m : ManifestBoxes). m.is_update) m
    → o1 ≡ o0 ++ (codes "{\"boxes\":" ++ compact_text (array (items_of (filter_map box_data (map (superbox_at t) boxes)))))
    → o2 ≡ o1 ++ (codes ",\"claim\":" ++ compact_text (claim_or_null claim))
    → o3 ≡ o2 ++ (codes ",\"label\":" ++ compact_text (string label))
    → o4 ≡ o3 ++ (codes ",\"update\":" ++ compact_text (boolean update))
    → o5 ≡ o4 ++ 125 ∷ []
    → Some o5 ≡ option_map (λ (m : ManifestBoxes). o0 ++ compact_text (manifest_data (manifest_at t m) claim)) m
unfolding serde_json_on_literals
manifest_written t boxes label update claim o0 o1 o2 o3 o4 o5 m boxes_are label_is update_is a b d e f =
    of_parts t boxes label update claim o0 o5 m boxes_are label_is update_is
    (four (codes "{\"boxes\":") (codes ",\"claim\":") (codes ",\"label\":") (codes ",\"update\":")
    (compact_text (array (items_of (filter_map box_data (map (superbox_at t) boxes)))))
    (compact_text (claim_or_null claim)) (compact_text (string label)) (compact_text (boolean update))
    o0 o1 o2 o3 o4 o5 a b d e f)

-- ---- manifests

-- with the manifest at a place written, the text goes on to the same end with those behind it
front :
    (t : Tree) (s : List ManifestBoxes) (cs : List (Option Claim)) (i : ℕ) (c : Option Claim) (old new w : List ℕ)
    (later : Bool)
    → slice_get cs i ≡ Some c
    → Some new ≡ option_map (λ (m : ManifestBoxes). (old ++ comma_if later) ++ compact_text (manifest_data (manifest_at t m) c)) (slice_get s i)
    → old ++ items_inside later (manifests_data (drop i (map (manifest_at t) s)) (drop i cs)) ≡ w
    → new ++ items_inside true (manifests_data (drop (suc i) (map (manifest_at t) s)) (drop (suc i) cs)) ≡ w
front t [] cs i c old new w later h e f = absurd (cc (e))
front t (m ∷ ms) [] i c old new w later h e f = absurd (cc (h))
front t (m ∷ ms) (b ∷ cs) zero c old new w later h e f =
    let own : b ≡ c = cc (h) in
    let is : new ≡ (old ++ comma_if later) ++ compact_text (manifest_data (manifest_at t m) c) = cc (e) in
    let is_too : new ≡ old ++ (comma_if later ++ compact_text (manifest_data (manifest_at t m) b)) =
    is ∙ append_assoc old (comma_if later) _
    ∙ ap (λ (x : Option Claim). old ++ (comma_if later ++ compact_text (manifest_data (manifest_at t m) x)))
    (sym own) in
    item_step old new w later (manifest_data (manifest_at t m) b) (manifests_data (map (manifest_at t) ms) cs) f is_too
front t (m ∷ ms) (b ∷ cs) (suc i) c old new w later h e f = front t ms cs i c old new w later h e f

-- with the manifest at a place written, and the comma before it, the text of all manifests goes on to the same end with those behind it
pub manifest_more : (t : Tree) (s : List ManifestBoxes) (ms : List Manifest) (cs : List (Option Claim)) (i : ℕ) (c : Option Claim) (old behind new w : List ℕ) (later : Bool)
    → s ≡ store_of t → ms ≡ manifests_of t → slice_get cs i ≡ Some c → behind ≡ old ++ comma_if later
    → Some new ≡ option_map (λ (m : ManifestBoxes). behind ++ compact_text (manifest_data (manifest_at t m) c)) (slice_get s i)
    → old ++ items_inside later (manifests_data (drop i ms) (drop i cs)) ≡ w
    → new ++ items_inside true (manifests_data (drop (i + 1) ms) (drop (i + 1) cs)) ≡ w
manifest_more t s ms cs i c old behind new w later stores are claims comma is so_far =
    let same : ms ≡ map (manifest_at t) s = are ∙ ap (λ (x : List ManifestBoxes). map (manifest_at t) x) (sym stores) in
    let is_too =
    is
    ∙ ap
    (λ x. option_map (λ (m : ManifestBoxes). x ++ compact_text (manifest_data (manifest_at t m) c)) (slice_get s i))
    comma in
    let before =
    sym (ap (λ (x : List Manifest). old ++ items_inside later (manifests_data (drop i x) (drop i cs))) same)
    ∙ so_far in
    let after = front t s cs i c old new w later claims is_too before in
    ap (λ n. new ++ items_inside true (manifests_data (drop n ms) (drop n cs))) (add-one i)
    ∙ ap (λ (x : List Manifest). new ++ items_inside true (manifests_data (drop (suc i) x) (drop (suc i) cs))) same
    ∙ after

-- ---- the line

-- the active label, the manifests and the end of the line, one behind the other, are the line of `show` behind what is there
pub line_written : (ms : List Manifest) (claims : List (Option Claim)) (o0 o1 o2 o3 o4 : List ℕ)
    → o1 ≡ o0 ++ (codes "{\"active\":" ++ compact_text (active_data (active_of ms)))
    → o2 ≡ o1 ++ codes ",\"manifests\":[" → o3 ≡ o2 ++ items_inside false (manifests_data ms claims) → o4 ≡ o3 ++ codes "]}\n" → o4 ≡ o0 ++ show_line ms claims
unfolding serde_json_on_literals
line_written ms claims o0 o1 o2 o3 o4 a b c d =
    let ds = manifests_data ms claims in
    let active = compact_text (active_data (active_of ms)) in
    let ends = items_end false ds in
    simp (d, c, b, a, ends, append_assoc) refl
