-- The bytes of the boxes of a manifest and of a store are those of their parts, and how many they are.
use Rattle.std.proofs.Common.{◌≡◌, ℕ, ◌+◌, false, List, ◌++◌, length, refl, sym, ap, ◌∙◌, append-nil, append_assoc, length-append, arith, codes}
use Rattle.std.specs.Int.{w32, from_be_bytes, to_be_bytes}
use Rattle.c2_spec.specs.C2pa.Manifest.{type_uuid}
use Rattle.c2_spec.specs.Jumbf.Tree.{Tree, Trees, none, more, boxed, tree_bytes, trees_bytes, description_bytes}
use Rattle.c2_spec.specs.Jumbf.Writing.{fresh_description, fresh_super, super_size}
use Rattle.c2_spec.specs.declared.kinds.TheConstants.{JUMB}
use Rattle.c2_definition.specs.declared.types.NewAssertion.{NewAssertion}
use Rattle.c2_new_file_spec.specs.FreshBoxes.{fresh_box, fresh_leaf, item_box, store_box, trees_then}
use Rattle.c2_new_file_spec.specs.Store.{assertion_boxes, manifest_box}
use Rattle.c2_new_file_spec.proofs.StoreSize.{one_box_len, store_len}
use Rattle.c2_spec.proofs.Openings.{payload_size}
use Rattle.c2_layout.specs.Parts.{contents_bytes, manifest_size}

-- ---- boxes

-- a superbox with one content box
pub one_bytes : (name label kind bytes leaf uuid : List ℕ) → leaf ≡ boxed (from_be_bytes w32 kind) false bytes
    → uuid ≡ type_uuid name
    → fresh_super uuid label leaf ≡ tree_bytes (fresh_box name label (more (fresh_leaf kind bytes) none))
one_bytes name label kind bytes leaf uuid is of =
    ap (λ (u : List ℕ). fresh_super u label leaf) of
    ∙ ap (fresh_super (type_uuid name) label) (is ∙ sym (append-nil (boxed (from_be_bytes w32 kind) false bytes)))

-- a superbox takes 34 bytes, its label and its contents
pub super_len : (uuid label contents : List ℕ) → length uuid ≡ 16
    → length (fresh_super uuid label contents) ≡ super_size label contents
super_len uuid label contents n =
    omega (arith, payload_size uuid label n, length-append (description_bytes (fresh_description uuid label)) contents)

-- ---- a manifest

-- what was put together of the three boxes stands behind the description
pub contents_are : (boxes claim message uuid a b s all : List ℕ) → uuid ≡ type_uuid (codes "c2as")
    → a ≡ fresh_super uuid (codes "c2pa.assertions") boxes
    → b ≡ tree_bytes (item_box (codes "c2cl") (codes "c2pa.claim.v2") claim)
    → s ≡ tree_bytes (item_box (codes "c2cs") (codes "c2pa.signature") message) → all ≡ a ++ (b ++ s)
    → all ≡ contents_bytes boxes claim message
contents_are boxes claim message uuid a b s all eu ea eb es e =
    let first : a ≡ fresh_super (type_uuid (codes "c2as")) (codes "c2pa.assertions") boxes =
    ea ∙ ap (λ (u : List ℕ). fresh_super u (codes "c2pa.assertions") boxes) eu in
    e ∙ ap (λ (x : List ℕ). x ++ (b ++ s)) first
    ∙ ap (λ (x : List ℕ). fresh_super (type_uuid (codes "c2as")) (codes "c2pa.assertions") boxes ++ (x ++ s)) eb
    ∙ ap
    (λ (x : List ℕ). fresh_super (type_uuid (codes "c2as")) (codes "c2pa.assertions") boxes ++ (tree_bytes (item_box (codes "c2cl") (codes "c2pa.claim.v2") claim) ++ x))
    es

-- it is what the box of the manifest holds
pub manifest_bytes : (label boxes claim message contents uuid : List ℕ) (assertions : List NewAssertion)
    → boxes ≡ trees_bytes (assertion_boxes assertions)
    → contents ≡ contents_bytes boxes claim message → uuid ≡ type_uuid (codes "c2ma")
    → fresh_super uuid label contents ≡ tree_bytes (manifest_box label assertions claim message)
manifest_bytes label boxes claim message contents uuid assertions eb ec eu =
    let store : Tree = fresh_box (codes "c2as") (codes "c2pa.assertions") (assertion_boxes assertions) in
    let claimed : List ℕ = tree_bytes (item_box (codes "c2cl") (codes "c2pa.claim.v2") claim) in
    let signed : List ℕ = tree_bytes (item_box (codes "c2cs") (codes "c2pa.signature") message) in
    ap (λ (u : List ℕ). fresh_super u label contents) eu ∙ ap (fresh_super (type_uuid (codes "c2ma")) label) ec
    ∙ ap
    (λ (x : List ℕ). fresh_super (type_uuid (codes "c2ma")) label (fresh_super (type_uuid (codes "c2as")) (codes "c2pa.assertions") x ++ (claimed ++ signed)))
    eb
    ∙ ap (λ (x : List ℕ). fresh_super (type_uuid (codes "c2ma")) label (tree_bytes store ++ (claimed ++ x))) (sym (append-nil signed))

-- how many bytes it has
pub contents_len : (boxes claim message : List ℕ)
    → length (contents_bytes boxes claim message) ≡ 160 + length boxes + length claim + length message
contents_len boxes claim message =
    let a : List ℕ = fresh_super (type_uuid (codes "c2as")) (codes "c2pa.assertions") boxes in
    let b : List ℕ = tree_bytes (item_box (codes "c2cl") (codes "c2pa.claim.v2") claim) in
    let s : List ℕ = tree_bytes (item_box (codes "c2cs") (codes "c2pa.signature") message) in
    let la : length a ≡ 34 + 15 + length boxes =
    super_len (type_uuid (codes "c2as")) (codes "c2pa.assertions") boxes refl in
    let lb : length b ≡ 42 + 13 + length claim =
    one_box_len (codes "c2cl") (codes "c2pa.claim.v2") (codes "cbor") claim refl in
    let ls : length s ≡ 42 + 14 + length message =
    one_box_len (codes "c2cs") (codes "c2pa.signature") (codes "cbor") message refl in
    omega (arith, la, lb, ls, length-append a (b ++ s), length-append b s)

-- with its description it is as large as the manifest
pub manifest_len : (label boxes claim message contents : List ℕ) → contents ≡ contents_bytes boxes claim message
    → super_size label contents ≡ manifest_size label boxes claim message
manifest_len label boxes claim message contents e = omega (arith, ap length e, contents_len boxes claim message)

-- ---- a store

-- boxes, and one more behind them
then_bytes : (boxes : Trees) (t : Tree) → trees_bytes boxes ++ tree_bytes t ≡ trees_bytes (trees_then boxes t)
then_bytes none t = sym (append-nil (tree_bytes t))
then_bytes (more s ss) t =
    append_assoc (tree_bytes s) (trees_bytes ss) (tree_bytes t)
    ∙ ap (λ (x : List ℕ). tree_bytes s ++ x) (then_bytes ss t)

-- a store of these boxes and this manifest, put together of its length, what stands behind that, the boxes and the manifest
pub store_bytes : (carried manifest word front all : List ℕ) (n : ℕ) (old : Trees) (last : Tree)
    → word ≡ to_be_bytes w32 n → n ≡ 38 + length carried + length manifest
    → front ≡ to_be_bytes w32 JUMB ++ description_bytes (fresh_description (type_uuid (codes "c2pa")) (codes "c2pa"))
    → all ≡ ((word ++ front) ++ carried) ++ manifest → carried ≡ trees_bytes old → manifest ≡ tree_bytes last
    → all ≡ tree_bytes (store_box old last)
store_bytes carried manifest word front all n old last w is f e c m =
    let d : List ℕ = description_bytes (fresh_description (type_uuid (codes "c2pa")) (codes "c2pa")) in
    let boxes : List ℕ = trees_bytes (trees_then old last) in
    let lc : length carried ≡ length (trees_bytes old) = ap length c in
    let lm : length manifest ≡ length (tree_bytes last) = ap length m in
    let len : n ≡ 8 + length (d ++ boxes) = omega (arith, is, lc, lm, store_len old last) in
    let joined : carried ++ manifest ≡ boxes =
    ap (λ (x : List ℕ). x ++ manifest) c ∙ ap (λ (x : List ℕ). trees_bytes old ++ x) m ∙ then_bytes old last in
    let front_is : front ++ (carried ++ manifest) ≡ to_be_bytes w32 JUMB ++ (d ++ boxes) =
    ap (λ (x : List ℕ). front ++ x) joined ∙ ap (λ (x : List ℕ). x ++ boxes) f ∙ append_assoc (to_be_bytes w32 JUMB) d boxes in
    e ∙ append_assoc (word ++ front) carried manifest ∙ append_assoc word front (carried ++ manifest)
    ∙ ap (λ (x : List ℕ). word ++ x) front_is
    ∙ ap (λ (x : List ℕ). x ++ (to_be_bytes w32 JUMB ++ (d ++ boxes))) (w ∙ ap (to_be_bytes w32) len)
    ∙ sym (append_assoc (to_be_bytes w32 (8 + length (d ++ boxes))) (to_be_bytes w32 JUMB) (d ++ boxes))
