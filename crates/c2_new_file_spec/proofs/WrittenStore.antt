-- A new store is a legal tree and a store, and its manifests are those that are carried and the one that was written.
use Rattle.std.specs.Prelude.{⊤, not}
use Rattle.std.proofs.Common.{◌≡◌, ◌≢◌, ℕ, ◌+◌, ◌^◌, ◌<◌, ◌≤◌, Bool, true, false, cond, List, [], ◌∷◌, ◌++◌, length, map, Some, refl, sym, ap, ◌∙◌, subst, arith, length-append, codes, bytes_eq, lit<, lit≤}
use Rattle.std.specs.List.{AllByRecursion, list_any}
use Rattle.std.specs.Int.{w32, from_be_bytes}
use Rattle.std.proofs.lemmas.Bool.{and_parts, not-true, or_parts, false≢true}
use Rattle.std.proofs.lemmas.List.{map-append}
use Rattle.std.proofs.lemmas.Slice.Eq.{bytes_eq-Decides}
use Rattle.c2_spec.specs.C2pa.Assertion.{kind_of}
use Rattle.c2_spec.specs.C2pa.Manifest.{Superbox, Manifest}
use Rattle.c2_spec.specs.Jumbf.Tree.{IsLabel, Tree, Trees, none, more, tree_bytes, trees_bytes, tree_labels, IsNewLabel, AreDistinctLabels, IsLegalTree, AreLegalTrees}
use Rattle.c2_spec.specs.declared.assertion.Kind.{Kind}
use Rattle.c2_spec.specs.declared.assertion.Kind.TheVariants as kinds
use Rattle.c2_rules.specs.Rules.{is_binding}
use Rattle.c2_definition.specs.DefinitionFile as file
use Rattle.c2_definition.specs.declared.types.Definition.{Definition}
use Rattle.c2_definition.specs.declared.types.NewAssertion.{NewAssertion}
use Rattle.c2_definition.specs.declared.types.Payload.{Payload}
use Rattle.c2_definition.specs.declared.types.Payload.TheVariants as payload
use Rattle.c2_new_file_spec.specs.FreshBoxes.{contents_of, item_box, fresh_box, fresh_leaf, trees_then}
use Rattle.c2_new_file_spec.specs.Manifests.{is_super, supers_in, supers_of, superbox_of, manifest_of}
use Rattle.c2_new_file_spec.specs.Store.{Content, NewIngredient, assertion_box, assertion_boxes, ingredient_assertion, manifest_box, new_assertions, new_claim, new_manifest, new_store}
use Rattle.c2_new_file_spec.specs.Written.{AreIngredients, IsText, CanBeWritten, IsStoreBox, IsNewBinding, LabelsApart, written_assertion, written_box, written_manifest, NewStoreIsRead}
use Rattle.c2_new_file_spec.proofs.BoxLemmas.{plain_label, fresh_len, leaf_legal, fresh_legal, then_len, then_legal, then_distinct}
use Rattle.c2_new_file_spec.proofs.ByIndex.{same_manifests}
use Rattle.c2_new_file_spec.proofs.Ingredients.{AreLabelled, good_label}
use Rattle.c2_new_file_spec.proofs.Labels.{label_of, manifest_label, can_be_named, new_label}
use Rattle.c2_new_file_spec.proofs.StoreTests.{store_passes}
use Rattle.c2_lemmas.proofs.Each.{each_append}

-- ---- labels that differ

-- a label differs from those of others
abbrev pub DiffersFrom : List ℕ → List NewAssertion → Type 0
DiffersFrom label others = AllByRecursion (λ (a : NewAssertion). a.label ≢ label) others

-- the labels of assertions differ
abbrev pub AreDifferent : List NewAssertion → Type 0
AreDifferent [] = ⊤
AreDifferent (a ∷ others) = DiffersFrom a.label others × AreDifferent others

-- a label that the test finds with no assertion differs from those of all
none_has : (label : List ℕ) (others : List NewAssertion) → list_any (file.has_label label) others ≡ false
    → DiffersFrom label others
none_has label [] h = tt
none_has label (a ∷ others) h =
    let both = or_parts (bytes_eq a.label label) (list_any (file.has_label label) others) h in
    (λ e. false≢true (sym both.0 ∙ (bytes_eq-Decides a.label label).1 e), none_has label others both.1)

-- as the test on a definition says
tested : (as_ : List NewAssertion) → file.labels_differ as_ ≡ true → AreDifferent as_
tested [] h = tt
tested (a ∷ others) h =
    let both = and_parts (not (list_any (file.has_label a.label) others)) (file.labels_differ others) h in
    (none_has a.label others (not-true (list_any (file.has_label a.label) others) both.0), tested others both.1)

-- an assertion that the builder adds itself: of no kind that a definition may have
abbrev pub IsOwn : NewAssertion → Type 0
IsOwn a = file.is_new_kind (kind_of a.label) ≡ false

-- an assertion whose label a definition may give
abbrev pub IsNew : NewAssertion → Type 0
IsNew a = file.is_new_label a.label ≡ true

-- a label of a kind that a definition may have differs from those of the builder's own assertions
own_differ : (label : List ℕ) (others : List NewAssertion) → file.is_new_kind (kind_of label) ≡ true
    → AllByRecursion IsOwn others → DiffersFrom label others
own_differ label [] h k = tt
own_differ label (a ∷ others) h k =
    (λ e. false≢true (sym k.0 ∙ ap (λ (l : List ℕ). file.is_new_kind (kind_of l)) e ∙ h), own_differ label others h k.1)

-- where the labels of a definition's assertions differ, and so do those of the builder's own, all of them differ
different_append : (xs ys : List NewAssertion) → AreDifferent xs → AreDifferent ys → AllByRecursion IsNew xs
    → AllByRecursion IsOwn ys → AreDifferent (xs ++ ys)
different_append [] ys h k each own = k
different_append (x ∷ xs) ys h k each own = (
  each_append (λ (a : NewAssertion). a.label ≢ x.label) xs ys h.0 (own_differ x.label ys (new_label x.label each.0).kind own),
  different_append xs ys h.1 k each.1 own,
)

-- a binding of a known kind is of no kind that a definition may have
binding_own : (k : Kind) → is_binding k ≡ true → file.is_new_kind k ≡ false
binding_own kinds.DataHash h = refl
binding_own kinds.BmffHash h = refl
binding_own kinds.OtherHash h = absurd (false≢true h)
binding_own kinds.Ingredient h = absurd (false≢true h)
binding_own kinds.IngredientOther h = absurd (false≢true h)
binding_own kinds.Actions h = absurd (false≢true h)
binding_own kinds.Cloud h = absurd (false≢true h)
binding_own kinds.Ordinary h = absurd (false≢true h)

-- no binding is an ingredient
binding_apart : (k : Kind) → is_binding k ≡ true → k ≡ kinds.Ingredient → ⊥
binding_apart k h e = false≢true (sym (ap is_binding e) ∙ h)

-- the assertions that the builder adds: those of the ingredients, and the binding
abbrev pub own_assertions : (List ℕ → List ℕ) → List NewIngredient → NewAssertion → List NewAssertion
own_assertions hash gs binding = map (ingredient_assertion hash) gs ++ binding ∷ []

-- the assertions that the builder adds are of kinds that a definition may not have
own_kinds : (hash : List ℕ → List ℕ) (gs : List NewIngredient) (binding : NewAssertion) → AreLabelled gs
    → is_binding (kind_of binding.label) ≡ true → AllByRecursion IsOwn (own_assertions hash gs binding)
own_kinds hash [] binding h k = (binding_own (kind_of binding.label) k, tt)
own_kinds hash (g ∷ gs) binding h k =
    (ap file.is_new_kind (good_label g.label h.0).kind, own_kinds hash gs binding h.1 k)

-- a label that differs from those of ingredients and from the binding's differs from those of their assertions
own_from : (hash : List ℕ → List ℕ) (label : List ℕ) (gs : List NewIngredient) (binding : NewAssertion)
    → AllByRecursion (λ (h : NewIngredient). h.label ≢ label) gs → binding.label ≢ label
    → DiffersFrom label (own_assertions hash gs binding)
own_from hash label [] binding h k = (k, tt)
own_from hash label (g ∷ gs) binding h k = (h.0, own_from hash label gs binding h.1 k)

-- the labels of the assertions that the builder adds differ
own_apart : (hash : List ℕ → List ℕ) (gs : List NewIngredient) (binding : NewAssertion) → AreLabelled gs
    → LabelsApart gs → is_binding (kind_of binding.label) ≡ true → AreDifferent (own_assertions hash gs binding)
own_apart hash [] binding h a k = (tt, tt)
own_apart hash (g ∷ gs) binding h a k = (
  own_from hash g.label gs binding a.0 (λ e. binding_apart (kind_of binding.label) k (ap kind_of e ∙ (good_label g.label h.0).kind)),
  own_apart hash gs binding h.1 a.1 k,
)

-- the labels of a new manifest's assertions differ
pub all_different : (hash : List ℕ → List ℕ) (c : Content) (binding : NewAssertion) → CanBeWritten c.definition
    → AreIngredients c.ingredients → IsNewBinding binding → AreDifferent (new_assertions hash c binding)
all_different hash c binding w gs h =
    different_append c.definition.assertions (own_assertions hash c.ingredients binding)
    (tested c.definition.assertions w.formed.differ)
    (own_apart hash c.ingredients binding gs.labels gs.apart h.kind) w.formed.labels
    (own_kinds hash c.ingredients binding gs.labels h.kind)

-- ---- labels in boxes

-- an assertion whose label can stand in a box
abbrev pub HasLabel : NewAssertion → Type 0
HasLabel a = IsLabel a.label

-- the labels of a definition's assertions can stand in boxes
new_labels : (as_ : List NewAssertion) → AllByRecursion IsNew as_
    → AllByRecursion (λ (a : NewAssertion). IsText a.label) as_ → AllByRecursion HasLabel as_
new_labels [] h k = tt
new_labels (a ∷ others) h k = (label_of a.label k.0.utf8 (new_label a.label h.0).text.named, new_labels others h.1 k.1)

-- the labels of the ingredients' assertions and of the binding can stand in boxes
own_labels : (hash : List ℕ → List ℕ) (gs : List NewIngredient) (binding : NewAssertion) → AreLabelled gs
    → IsLabel binding.label → AllByRecursion HasLabel (own_assertions hash gs binding)
own_labels hash [] binding h k = (k, tt)
own_labels hash (g ∷ gs) binding h k = ((good_label g.label h.0).label, own_labels hash gs binding h.1 k)

-- the labels of all assertions of a new manifest can stand in boxes
pub all_labelled : (hash : List ℕ → List ℕ) (c : Content) (binding : NewAssertion) → CanBeWritten c.definition
    → AreIngredients c.ingredients → IsNewBinding binding → AllByRecursion HasLabel (new_assertions hash c binding)
all_labelled hash c binding w gs h =
    each_append HasLabel c.definition.assertions (own_assertions hash c.ingredients binding)
    (new_labels c.definition.assertions w.formed.labels w.texts.labels)
    (own_labels hash c.ingredients binding gs.labels h.label)

-- ---- assertion boxes

-- a superbox with one content box
one_legal : (depth : ℕ) (name label kind bytes : List ℕ) → depth ≤ 16 → length name ≡ 4 → IsLabel label
    → from_be_bytes w32 kind < 2 ^ 32
    → (from_be_bytes w32 kind ≢ 0x6A756D62)
    → length (tree_bytes (fresh_box name label (more (fresh_leaf kind bytes) none))) < 2 ^ 32
    → IsLegalTree depth (fresh_box name label (more (fresh_leaf kind bytes) none))
one_legal depth name label kind bytes deep four h small other fits =
    let n = fresh_len name label (more (fresh_leaf kind bytes) none) four in
    fresh_legal depth name label (more (fresh_leaf kind bytes) none) deep four h fits
    (leaf_legal (depth + 1) kind bytes small other (omega (arith, fits, n, length-append (tree_bytes (fresh_leaf kind bytes)) [])), tt)
    (tt, tt)

-- the box of an assertion is legal, where its label can stand in a box and it isn't too long
assertion_legal : (a : NewAssertion) → IsLabel a.label → length (tree_bytes (assertion_box a)) < 2 ^ 32
    → IsLegalTree 4 (assertion_box a)
assertion_legal a h fits = go a.kind a.label a.bytes h fits
  where
    go : (k : Payload) (label bytes : List ℕ) → IsLabel label
        → length (tree_bytes (assertion_box (record { label = label; kind = k; bytes = bytes }))) < 2 ^ 32
        → IsLegalTree 4 (assertion_box (record { label = label; kind = k; bytes = bytes }))
    go payload.Cbor label bytes h fits =
        one_legal 4 (codes "cbor") label (codes "cbor") bytes (lit≤ tt) refl h (lit< tt) (λ e. omega (arith, e)) fits
    go payload.Json label bytes h fits =
        one_legal 4 (codes "json") label (codes "json") bytes (lit≤ tt) refl h (lit< tt) (λ e. omega (arith, e)) fits

-- the boxes of assertions are legal, where their labels can stand in boxes and they aren't too long together
assertions_legal : (as_ : List NewAssertion) → AllByRecursion HasLabel as_
    → length (trees_bytes (assertion_boxes as_)) < 2 ^ 32 → AreLegalTrees 4 (assertion_boxes as_)
assertions_legal [] h fits = tt
assertions_legal (a ∷ others) h fits =
    let n = length-append (tree_bytes (assertion_box a)) (trees_bytes (assertion_boxes others)) in
    (assertion_legal a h.0 (omega (arith, fits, n)), assertions_legal others h.1 (omega (arith, fits, n)))

-- a label that no assertion has is new among the labels of their boxes
label_new : (label : List ℕ) (as_ : List NewAssertion) → DiffersFrom label as_
    → IsNewLabel (Some label) (tree_labels (assertion_boxes as_))
label_new label [] h = tt
label_new label (a ∷ others) h = (λ e. h.0 (cc (e)), label_new label others h.1)

-- the boxes of assertions whose labels differ have labels that differ
assertions_distinct : (as_ : List NewAssertion) → AreDifferent as_
    → AreDistinctLabels (tree_labels (assertion_boxes as_))
assertions_distinct [] h = tt
assertions_distinct (a ∷ others) h = (label_new a.label others h.0, assertions_distinct others h.1)

-- ---- the manifest

-- the box of an item is legal in a manifest, where its label can stand in a box and it isn't too long
item_legal : (name label bytes : List ℕ) → length name ≡ 4 → IsLabel label
    → length (tree_bytes (item_box name label bytes)) < 2 ^ 32 → IsLegalTree 3 (item_box name label bytes)
item_legal name label bytes four h fits =
    one_legal 3 name label (codes "cbor") bytes (lit≤ tt) four h (lit< tt) (λ e. omega (arith, e)) fits

-- a manifest is legal in a store, where its labels can stand in boxes, those of its assertions differ, and it isn't too long
pub manifest_legal : (label : List ℕ) (as_ : List NewAssertion) (claim message : List ℕ) → IsLabel label
    → AllByRecursion HasLabel as_ → AreDifferent as_
    → length (tree_bytes (manifest_box label as_ claim message)) < 2 ^ 32
    → IsLegalTree 2 (manifest_box label as_ claim message)
manifest_legal label as_ claim message h labelled different fits =
    let a : Tree = fresh_box (codes "c2as") (codes "c2pa.assertions") (assertion_boxes as_) in
    let b : Tree = item_box (codes "c2cl") (codes "c2pa.claim.v2") claim in
    let s : Tree = item_box (codes "c2cs") (codes "c2pa.signature") message in
    let n = fresh_len (codes "c2ma") label (more a (more b (more s none))) refl in
    let na : length (tree_bytes a) ≡ 34 + 15 + length (trees_bytes (assertion_boxes as_)) =
    fresh_len (codes "c2as") (codes "c2pa.assertions") (assertion_boxes as_) refl in
    let one = length-append (tree_bytes a) (trees_bytes (more b (more s none))) in
    let two = length-append (tree_bytes b) (trees_bytes (more s none)) in
    let three = length-append (tree_bytes s) [] in
    fresh_legal 2 (codes "c2ma") label (more a (more b (more s none))) (lit≤ tt) refl h fits (
      fresh_legal 3 (codes "c2as") (codes "c2pa.assertions") (assertion_boxes as_) (lit≤ tt) refl (plain_label (codes "c2pa.assertions") refl) (omega (arith, fits, n, one))
          (assertions_legal as_ labelled (omega (arith, fits, n, one, na))) (assertions_distinct as_ different),
      (
        item_legal (codes "c2cl") (codes "c2pa.claim.v2") claim refl (plain_label (codes "c2pa.claim.v2") refl) (omega (arith, fits, n, one, two)),
        (item_legal (codes "c2cs") (codes "c2pa.signature") message refl (plain_label (codes "c2pa.signature") refl) (omega (arith, fits, n, one, two, three)), tt),
      ),
    )
    ((λ e. cc (e), (λ e. cc (e), tt)), ((λ e. cc (e), tt), (tt, tt)))

-- the box of an assertion is seen as it was written
assertion_read : (a : NewAssertion) → superbox_of (assertion_box a) ≡ written_assertion a
assertion_read a = go a.kind a.label a.bytes
  where
    go : (k : Payload) (label bytes : List ℕ)
        → superbox_of (assertion_box (record { label = label; kind = k; bytes = bytes })) ≡ written_assertion (record { label = label; kind = k; bytes = bytes })
    go payload.Cbor label bytes = refl
    go payload.Json label bytes = refl

-- the boxes of assertions are seen as they were written
assertions_read : (as_ : List NewAssertion)
    → map superbox_of (supers_in (assertion_boxes as_)) ≡ map written_assertion as_
assertions_read [] = refl
assertions_read (a ∷ others) =
    ap (λ (b : Superbox). b ∷ map superbox_of (supers_in (assertion_boxes others))) (assertion_read a)
    ∙ ap (λ (bs : List Superbox). written_assertion a ∷ bs) (assertions_read others)

-- a manifest is seen as it was written
pub manifest_read : (label : List ℕ) (as_ : List NewAssertion) (claim message : List ℕ)
    → manifest_of (manifest_box label as_ claim message) ≡ written_manifest label as_ claim message
manifest_read label as_ claim message =
    ap (λ (bs : List Superbox). record {
      label = Some label;
      contents = contents_of (manifest_box label as_ claim message);
      is_update = false;
      claims = written_box (codes "c2cl") (codes "c2pa.claim.v2") claim ∷ [];
      signature = Some (written_box (codes "c2cs") (codes "c2pa.signature") message);
      assertions = bs;
    }) (assertions_read as_)

-- ---- the store

-- a superbox behind boxes is the last of the superboxes among them
pub supers_then : (boxes : Trees) (t : Tree) → is_super t ≡ true
    → supers_in (trees_then boxes t) ≡ supers_in boxes ++ t ∷ []
supers_then none t h = ap (λ b. cond b (t ∷ []) []) h
supers_then (more s ss) t h = step (is_super s) s ss t (supers_then ss t h)
  where
    step : (b : Bool) (s : Tree) (ss : Trees) (t : Tree) → supers_in (trees_then ss t) ≡ supers_in ss ++ t ∷ []
        → cond b (s ∷ supers_in (trees_then ss t)) (supers_in (trees_then ss t)) ≡ cond b (s ∷ supers_in ss) (supers_in ss) ++ t ∷ []
    step true s ss t e = ap (λ (xs : List Tree). s ∷ xs) e
    step false s ss t e = e

-- a new store that isn't too large is a legal tree and a store, with the manifests that are carried and then the new one
pub store_read : NewStoreIsRead
store_read hash c binding message w carried gs h small =
    let d : Definition = c.definition in
    let as_ : List NewAssertion = new_assertions hash c binding in
    let m : Tree = new_manifest hash c binding message in
    let t : Tree = new_store hash c binding message in
    let n = fresh_len (codes "c2pa") (codes "c2pa") (trees_then c.carried m) refl in
    let k = then_len c.carried m in
    let name = manifest_label d.label w.formed.label in
    let own : IsLegalTree 2 m =
    manifest_legal d.label as_ (new_claim hash c binding) message
    (label_of d.label w.texts.label.utf8 name.named) (all_labelled hash c binding w gs h)
    (all_different hash c binding w gs h) (omega (arith, n, k, small)) in
    let supers : supers_of t ≡ supers_in c.carried ++ m ∷ [] = supers_then c.carried m refl in
    let count : length (supers_of t) ≡ length (supers_in c.carried) + 1 =
    ap length supers ∙ length-append (supers_in c.carried) (m ∷ []) in
    record {
      spelled = record {
        whole = refl;
        legal = fresh_legal 1 (codes "c2pa") (codes "c2pa") (trees_then c.carried m) (lit≤ tt) refl (plain_label (codes "c2pa") refl) (omega (arith, small))
            (then_legal 2 c.carried m carried.legal own) (then_distinct c.carried m d.label refl carried.distinct carried.new);
      };
      store =
          store_passes t refl
          (subst (AllByRecursion IsStoreBox) (sym supers) (each_append IsStoreBox (supers_in c.carried) (m ∷ []) carried.manifests (record { manifest = refl; label = can_be_named d.label name }, tt)))
          (omega (arith, count)) (omega (arith, count, carried.few));
      manifests = same_manifests t ∙ ap (map manifest_of) supers ∙ map-append manifest_of (supers_in c.carried) (m ∷ [])
          ∙ ap (λ (x : Manifest). map manifest_of (supers_in c.carried) ++ x ∷ []) (manifest_read d.label as_ (new_claim hash c binding) message);
    }
