-- A box tree that is a store of manifests, and what these are read as: labels differ, a box is found by its
-- label, and equal contents are seen alike.
use Rattle.std.proofs.Common.{◌≡◌, ◌≢◌, ℕ, zero, suc, ◌<◌, true, false, List, [], ◌∷◌, ◌++◌, map, length, Option, Some, None, unwrap_or, Contains, slice_get, refl, sym, ap, ◌∙◌, subst, arith, eqb}
use Rattle.std.specs.List.{find, flat_map}
use Rattle.std.specs.Option.{option_map}
use Rattle.std.proofs.lemmas.Bool.Decides.{Decides-eqb}
use Rattle.std.proofs.lemmas.Option.{same_Some}
use Rattle.c2_spec.specs.C2pa.Manifest.{StoreTest, first_refusal, store_tests, store_refusal, manifest_tests, count_tests, is_manifest_label, is_superbox, superboxes, inside, signature_in, assertion_store_in, store_of, manifest_boxes, Superbox, superbox_at, Manifest, manifest_at, manifests_of}
use Rattle.c2_spec.specs.Jumbf.Boxes.{tree_count, child_indices}
use Rattle.c2_spec.specs.Jumbf.Tree.{Tree, IsLegalTree}
use Rattle.c2_spec.proofs.JumbfBoxes.{some_box}
use Rattle.c2_spec.proofs.JumbfChildren.{label_at, children_inside}
use Rattle.c2_spec.proofs.GivenLabels.{given_is, is_given_back}
use Rattle.c2_rules.specs.Chains.{label_in}
use Rattle.c2_rules.specs.Readings.{ReadBox, IsReadBox, Reading, IsReading, AreReadings}
use Rattle.c2_rules.specs.Rules.{is_labelled, box_with}
use Rattle.c2_compare_spec.proofs.Facts.{TreeFacts, SeenAlike}
use Rattle.c2_compare_spec.proofs.Labels.{superboxes_apart, inside_apart}
use Rattle.c2_compare_spec.proofs.Lists.{find_says, find_only, filter_says, none_cons, none_at, none_append, none_flat}
use Rattle.c2_compare_spec.proofs.Trees.{StandsSuper, is_super, contents_seen, contents_manifest}
use Rattle.c2_lemmas.proofs.Bools.{not_false_is_true, true_and_false}
use Rattle.c2_lemmas.proofs.Each.{at_contains, contains_at, member_of, partner_at, zip_length}
use Rattle.c2_lemmas.proofs.Lists.{mapped_length}
use Rattle.c2_lemmas.proofs.Options.{mapped_from}

-- This legal tree is a store, and its manifests are read so.
pub record IsStored (t : Tree) (rs : List Reading) : Type 0 where
  pub legal : IsLegalTree 1 t
  pub accepted : store_refusal t ≡ None
  pub readings : AreReadings (manifests_of t) rs

-- ---- lists

-- what stands at a place of a mapped list is made of what stands there in the list
mapped_at : {X Y : Type 0} (f : X → Y) (xs : List X) (n : ℕ) (y : Y) → slice_get (map f xs) n ≡ Some y
    → (x : X) × (slice_get xs n ≡ Some x) × (f x ≡ y)
mapped_at f [] n y e = absurd cc
mapped_at f (x ∷ xs) zero y e = (x, refl, same_Some (f x) y e)
mapped_at f (x ∷ xs) (suc n) y e = mapped_at f xs n y e

-- ---- the tests of a store

-- where nothing is refused no test fails
none_fails : (ts : List StoreTest) → first_refusal ts ≡ None → find (λ (x : StoreTest). x.fails) ts ≡ None
none_fails ts e = by (find (λ (x : StoreTest). x.fails) ts) e
  where
    by : (o : Option StoreTest) → option_map (λ (x : StoreTest). x.refusal) o ≡ None → o ≡ None
    by None is = refl
    by (Some x) is = absurd cc

-- the tests of each manifest, and those of their number
parts_hold : (t : Tree) → store_refusal t ≡ None
    → (find (λ (x : StoreTest). x.fails) (flat_map (manifest_tests t) (superboxes t 0)) ≡ None)
    × (find (λ (x : StoreTest). x.fails) (count_tests (length (superboxes t 0))) ≡ None)
parts_hold t e =
    none_append (λ (x : StoreTest). x.fails) (flat_map (manifest_tests t) (superboxes t 0))
    (count_tests (length (superboxes t 0)))
    (none_cons (λ (x : StoreTest). x.fails) _
    (flat_map (manifest_tests t) (superboxes t 0) ++ count_tests (length (superboxes t 0)))
    (none_fails (store_tests t) e)).1

-- there is a manifest
count_some : (t : Tree) → store_refusal t ≡ None → 0 < length (superboxes t 0)
count_some t e =
    let test : eqb (length (superboxes t 0)) 0 ≡ false =
    none_at (λ (x : StoreTest). x.fails) (count_tests (length (superboxes t 0))) (parts_hold t e).1 0 _
    refl in
    let some : length (superboxes t 0) ≢ 0 =
    λ z. true_and_false (eqb (length (superboxes t 0)) 0) ((Decides-eqb (length (superboxes t 0)) 0).1 z) test in
    omega (arith, some)

-- a label that a manifest may have is there and isn't empty
label_there : (o : Option (List ℕ)) → is_manifest_label o ≡ true
    → (label : List ℕ) × (o ≡ Some label) × (label ≢ [])
label_there None e = absurd cc
label_there (Some label) e = (
  label,
  refl,
  λ empty. true_and_false (is_manifest_label (Some label)) e
      (ap (λ l. is_manifest_label (Some l)) empty),
)

-- a manifest has such a label
has_label : (t : Tree) (i : ℕ) → store_refusal t ≡ None → Contains (superboxes t 0) i
    → (label : List ℕ) × (label_at t i ≡ Some label) × (label ≢ [])
has_label t i e c =
    let own =
    none_flat (λ (x : StoreTest). x.fails) (manifest_tests t) (superboxes t 0) (parts_hold t e).0 i c in
    label_there (label_at t i)
    (not_false_is_true (is_manifest_label (label_at t i))
    (none_at (λ (x : StoreTest). x.fails) (manifest_tests t i) own 1 _ refl))

-- ---- superboxes

-- a superbox of a box of the tree stands there
super_in : (t : Tree) (k i : ℕ) → k < tree_count t → Contains (superboxes t k) i → StandsSuper t i
super_in t k i lt c =
    let f = filter_says (is_superbox t) (child_indices t k) i c in
    is_super t i (member_of (λ j. j < tree_count t) (child_indices t k) i (children_inside t k lt) f.0) f.1

-- a superbox inside a box that may be missing stands in the tree
super_inside : (t : Tree) (o : Option ℕ) → ((j : ℕ) → o ≡ Some j → j < tree_count t) → (p k : ℕ)
    → slice_get (inside t o) p ≡ Some k → StandsSuper t k
super_inside t None lt p k e = absurd (cc (e))
super_inside t (Some j) lt p k e = super_in t j k (lt j refl) (contains_at (superboxes t j) p k e)

-- ---- one store

module _ (t : Tree) (rs : List Reading) (h : IsStored t rs) where
  -- A manifest that was read, by its superbox.
  record Placed (n : ℕ) (r : Reading) : Type 0 where
    index : ℕ
    at : slice_get (superboxes t 0) n ≡ Some index
    reading : IsReading (manifest_at t (manifest_boxes t index)) r
    super : StandsSuper t index
    label : List ℕ
    has : label_at t index ≡ Some label
    some : label ≢ []
    is_label : label_in r ≡ label

  -- each manifest that was read has one
  placed : (n : ℕ) (r : Reading) → slice_get rs n ≡ Some r → Placed n r
  placed n r e =
      let p = partner_at IsReading (manifests_of t) rs n r h.readings e in
      let q = mapped_at (manifest_at t) (store_of t) n p.0 p.1 in
      let w = mapped_at (manifest_boxes t) (superboxes t 0) n q.0 q.1 in
      let reading : IsReading (manifest_at t (manifest_boxes t w.0)) r =
      subst (λ m. IsReading m r) (sym (ap (manifest_at t) w.2 ∙ q.2)) p.2 in
      let member = contains_at (superboxes t 0) n w.0 w.1 in
      let l = has_label t w.0 h.accepted member in
      record {
        index = w.0;
        at = w.1;
        reading = reading;
        super = super_in t 0 w.0 (some_box t) member;
        label = l.0;
        has = l.1;
        some = l.2;
        is_label = ap (λ (m : Manifest). unwrap_or m.label []) reading.same ∙ ap (λ o. unwrap_or o []) l.1;
      }

  -- the assertion store of a manifest, where it has one, is a box of the tree
  store_inside : (n : ℕ) (r : Reading) (a : Placed n r) (j : ℕ)
      → assertion_store_in t (superboxes t a.index) ≡ Some j → j < tree_count t
  store_inside n r a j e =
      (super_in t a.index j a.super.stands.inside (find_says _ (superboxes t a.index) j e).0).stands.inside

  -- An assertion box that was read, by its superbox.
  record BoxPlaced (n : ℕ) (r : Reading) (a : Placed n r) (p : ℕ) (b : ReadBox) : Type 0 where
    index : ℕ
    at : slice_get (inside t (assertion_store_in t (superboxes t a.index))) p ≡ Some index
    is : b.boxed ≡ superbox_at t index
    super : StandsSuper t index

  -- each assertion box that was read has one
  box_placed : (n : ℕ) (r : Reading) (a : Placed n r) (p : ℕ) (b : ReadBox) → slice_get r.boxes p ≡ Some b
      → BoxPlaced n r a p b
  box_placed n r a p b e =
      let x = partner_at IsReadBox (manifest_at t (manifest_boxes t a.index)).assertions r.boxes p b
      a.reading.boxes e in
      let y = mapped_at (superbox_at t) (inside t (assertion_store_in t (superboxes t a.index))) p x.0 x.1 in
      record {
        index = y.0;
        at = y.1;
        is = x.2.same ∙ sym y.2;
        super = super_inside t (assertion_store_in t (superboxes t a.index)) (store_inside n r a) p y.0 y.1;
      }

  -- manifests have different labels
  differ : (n m : ℕ) (r s : Reading) → slice_get rs n ≡ Some r → slice_get rs m ≡ Some s
      → label_in r ≡ label_in s → n ≡ m
  differ n m r s e f same =
      let a = placed n r e in
      let b = placed m s f in
      superboxes_apart t 0 h.legal (some_box t) n m a.index b.index a.label a.at b.at a.has
      (b.has ∙ ap Some (sym b.is_label ∙ sym same ∙ a.is_label))

  -- a box is found by its label
  one_box : (n : ℕ) (r : Reading) → slice_get rs n ≡ Some r → (b : ReadBox) → Contains r.boxes b
      → (label : List ℕ)
      → b.boxed.label ≡ Some label → box_with r label ≡ Some b
  one_box n r e b c label labelled =
      let a = placed n r e in
      let p = at_contains r.boxes b c in
      let x = box_placed n r a p.0 b p.1 in
      find_only (is_labelled label) r.boxes p.0 b p.1 (is_given_back b.boxed.label label labelled)
      (λ q y at given.
      let z = box_placed n r a q y at in
      inside_apart t (assertion_store_in t (superboxes t a.index)) h.legal (store_inside n r a) q p.0 z.index
      x.index label z.at x.at
      (sym (ap (λ (b : Superbox). b.label) z.is) ∙ given_is y.boxed.label label given)
      (sym (ap (λ (b : Superbox). b.label) x.is) ∙ labelled))

  -- what the laws use of the box tree
  pub tree_facts : TreeFacts rs
  tree_facts = record {
    some =
        let count = count_some t h.accepted in
        let same : length (superboxes t 0) ≡ length rs =
        sym (mapped_length (manifest_boxes t) (superboxes t 0))
        ∙ sym (mapped_length (manifest_at t) (store_of t))
        ∙ zip_length IsReading (manifests_of t) rs h.readings in
        subst (λ k. 0 < k) same count;
    differ = differ;
    named = λ n r e empty. let a = placed n r e in a.some (sym a.is_label ∙ empty);
    one_box = one_box;
    reads = λ n r e. let a = placed n r e in subst (λ m. IsReading m r) (sym a.reading.same) a.reading;
  }

  -- the signature box of a manifest that was read, by its superbox
  signature_placed : (n : ℕ) (r : Reading) → slice_get rs n ≡ Some r → (b : Superbox)
      → r.manifest.signature ≡ Some b
      → (i : ℕ) × StandsSuper t i × (b ≡ superbox_at t i)
  signature_placed n r e b is =
      let a = placed n r e in
      let x = mapped_from (superbox_at t) (signature_in t (superboxes t a.index)) b
      (sym (ap (λ (m : Manifest). m.signature) a.reading.same) ∙ is) in (
        x.0,
        super_in t a.index x.0 a.super.stands.inside (find_says _ (superboxes t a.index) x.0 x.1).0,
        sym
            x.2,
      )

-- ---- two stores

module _ (t u : Tree) (rs ss : List Reading) (h : IsStored t rs) (k : IsStored u ss) where
  -- superboxes with equal contents are equal
  one_seen : (b c : Superbox) (i j : ℕ) → StandsSuper t i → StandsSuper u j → b ≡ superbox_at t i
      → c ≡ superbox_at u j → b.contents ≡ c.contents → b ≡ c
  one_seen b c i j p q at_b at_c e =
      at_b
      ∙ contents_seen t u i j h.legal k.legal p q
      (sym (ap (λ (x : Superbox). x.contents) at_b) ∙ e ∙ ap (λ (x : Superbox). x.contents) at_c)
      ∙ sym at_c

  -- boxes and manifests with equal contents are seen alike
  pub seen_alike : SeenAlike rs ss
  seen_alike = record {
    boxes = λ n m r s e f b c in_r in_s same.
        let a = placed t rs h n r e in
        let z = placed u ss k m s f in
        let p = at_contains r.boxes b in_r in
        let q = at_contains s.boxes c in_s in
        let x = box_placed t rs h n r a p.0 b p.1 in
        let y = box_placed u ss k m s z q.0 c q.1 in
        one_seen b.boxed c.boxed x.index y.index x.super y.super x.is y.is same;
    signatures = λ n m r s e f b c at_b at_c same.
        let x = signature_placed t rs h n r e b at_b in
        let y = signature_placed u ss k m s f c at_c in
        one_seen b c x.0 y.0 x.1 y.1 x.2 y.2 same;
    manifests = λ n m r s e f same.
        let a = placed t rs h n r e in
        let z = placed u ss k m s f in
        a.reading.same
        ∙ contents_manifest t u a.index z.index h.legal k.legal a.super z.super
        (sym (ap (λ (x : Manifest). x.contents) a.reading.same) ∙ same
        ∙ ap (λ (x : Manifest). x.contents) z.reading.same)
        ∙ sym z.reading.same;
  }
