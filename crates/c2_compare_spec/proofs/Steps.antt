-- The step: where the pairs that lead from a manifest have no difference, each of its children corresponds to
-- a child of its counterpart; and where they have one, the first is real evidence.
use Rattle.std.proofs.Common.{◌≡◌, inl, inr, ℕ, Bool, true, false, cond, List, [], ◌∷◌, Option, Some, None, MatchBool, Contains, slice_get, refl, sym, ap, ◌∙◌, subst}
use Rattle.std.specs.List.{find}
use Rattle.c2_base.specs.declared.values.Question.{Question}
use Rattle.c2_spec.specs.C2pa.Assertion.{ingredient_of, kind_of}
use Rattle.c2_spec.specs.declared.assertion.Ingredient.{Ingredient}
use Rattle.c2_spec.specs.declared.cbor.Ref.{Ref}
use Rattle.c2_spec.specs.declared.digest.Alg.{Alg}
use Rattle.c2_spec.specs.declared.panel.Verdict.{Verdict}
use Rattle.c2_rules.specs.Chains.{label_in, named_by, named_in, entry_label, IsChild, is_reached}
use Rattle.c2_rules.specs.Ingredients.{is_ingredient, is_ingredient_kind, is_ingredient_label, box_version}
use Rattle.c2_rules.specs.Readings.{IsParsed, ReadBox, Reading, value_in, entries_in}
use Rattle.c2_rules.specs.Rules.{box_with, label_kind}
use Rattle.c2_rules.specs.declared.parsed.Parsed.TheVariants.{NoItem}
use Rattle.c2_compare_spec.specs.Correspondence.{Correspond}
use Rattle.c2_compare_spec.specs.Differences.{other_named, box_pair, target_pairs, label_pairs, named_pairs, ingredient_with, ingredient_pairs, entry_pairs, ingredients_at}
use Rattle.c2_compare_spec.specs.Evidence.{ListPair, do_differ}
use Rattle.c2_compare_spec.proofs.Alike.{box_reads}
use Rattle.c2_compare_spec.proofs.Facts.{SeenAlike, StoreFacts, IsShown}
use Rattle.c2_compare_spec.proofs.Links.{ingredient_stays, box_says, ingredient_is, stays, BothBoxes, one_claim, one_entry, label_first, counterpart_is, both_boxes, box_shown, box_same, Targets, targets, targets_correspond, target_shown, target_same}
use Rattle.c2_compare_spec.proofs.Pairs.{found_pair, none_pair, FoundEntry, found_entry, none_entry, pairs_are}
use Rattle.c2_lemmas.proofs.Options.{one_value}

-- ---- a box that reads as an ingredient

-- The box is found by the label of an entry, which is that of an ingredient.
pub record IsEntered (r : Reading) (b : ReadBox) : Type 0 where
  pub label : List ℕ
  pub found : box_with r label ≡ Some b
  pub entry : Ref
  pub lists : Contains (entries_in r) entry
  pub is_label : entry_label r.manifest entry ≡ Some label
  pub kind : is_ingredient_kind (label_kind label) ≡ true

-- the kind of a label
kind_is : (label : List ℕ) → kind_of label ≡ label_kind label
unfolding label_kind
kind_is label = refl

-- a box that reads as an ingredient has the label of one
has_kind : (b : ReadBox) (i : Ingredient) (is : Bool)
    → MatchBool is (IsParsed (ingredient_of (box_version b.boxed)) b.boxed.item b.ingredient) (b.ingredient ≡ NoItem)
    → value_in b.ingredient ≡ Some i → is ≡ true
has_kind b i true reads e = refl
has_kind b i false reads e = absurd (let bad = sym (ap value_in reads) ∙ e in cc (bad))

-- what a box names is named by the ingredient that it is read as
names_by : (b : ReadBox) (name : List ℕ) → named_in b ≡ Some name
    → (i : Ingredient) × (value_in b.ingredient ≡ Some i) × (named_by (Some i) ≡ Some name)
names_by b name e = by (value_in b.ingredient) refl e
  where
    by : (o : Option Ingredient) → value_in b.ingredient ≡ o → named_by o ≡ Some name
        → (i : Ingredient) × (value_in b.ingredient ≡ Some i) × (named_by (Some i) ≡ Some name)
    by None is names = absurd (cc (names))
    by (Some i) is names = (i, is, names)

-- a box of a reached manifest that reads as an ingredient
entered : (hash : Alg → List ℕ → List ℕ) (said : Question → Verdict) (rs : List Reading)
    (f : StoreFacts hash said rs) (n : ℕ) (r : Reading)
    → slice_get rs n ≡ Some r → is_reached rs n ≡ true → (b : ReadBox) (i : Ingredient) → Contains r.boxes b
    → value_in b.ingredient ≡ Some i → IsEntered r b
entered hash said rs f n r at reached b i listed is =
    let x = (f.manifests n r at reached).boxes b listed in
    let kind : is_ingredient_label b.boxed.label ≡ true =
    has_kind b i (is_ingredient b.boxed) (box_reads r (f.tree.reads n r at) b listed).reads is in
    record {
      label = x.label;
      found = f.tree.one_box n r at b listed x.label x.labelled;
      entry = x.entry;
      lists = x.lists;
      is_label = x.is_label;
      kind = ap is_ingredient_kind (sym (kind_is x.label)) ∙ ap is_ingredient_label (sym x.labelled) ∙ kind;
    }

module _ (hash : Alg → List ℕ → List ℕ) (said : Question → Verdict) (rs ss : List Reading)
    (f : StoreFacts hash said rs)
    (g : StoreFacts hash said ss) (alike : SeenAlike rs ss) where
  -- ---- one entry

  -- the boxes of an entry with the label of an ingredient are there in both
  ingredient_boxes : (n m : ℕ) (w : Correspond rs ss n m) (e : Ref) (label : List ℕ)
      → Contains (entries_in w.first) e
      → entry_label w.first.manifest e ≡ Some label → is_ingredient_kind (label_kind label) ≡ true
      → BothBoxes hash w.first w.second e label
  ingredient_boxes n m w e label listed is kind =
      let kept = ingredient_stays (label_kind label) kind in
      both_boxes hash said rs ss f g alike n m w e label listed is (stays hash said rs f n label kept)
      (stays hash said ss g m label kept)

  -- Where its boxes are equal, both read as one ingredient.
  record OneIngredient (n m : ℕ) (w : Correspond rs ss n m) (e : Ref) (label : List ℕ)
      (h : BothBoxes hash w.first w.second e label) : Type 0 where
    ingredient : Ingredient
    left_is : value_in h.left.ingredient ≡ Some ingredient
    right_is : value_in h.right.ingredient ≡ Some ingredient
    pairs_are : named_pairs rs ss w.first (ingredient_with w.first label)
        ≡ label_pairs rs ss w.first ingredient (named_by (Some ingredient))

  -- by the rules of the first
  one_ingredient : (n m : ℕ) (w : Correspond rs ss n m) (e : Ref) (label : List ℕ)
      (h : BothBoxes hash w.first w.second e label)
      → is_ingredient_kind (label_kind label) ≡ true
      → (box_pair w.first w.second e label).left ≡ (box_pair w.first w.second e label).right
      → OneIngredient n m w e label h
  one_ingredient n m w e label h kind same =
      let equal = box_same hash said rs ss f g alike n m w e label h same in
      let b = box_says w.first label h.left h.left_is in
      let x = (f.manifests n w.first w.first_at w.first_reached).ingredients h.left b.0 label b.1 kind in
      record {
        ingredient = x.ingredient;
        left_is = x.is;
        right_is = sym (ap value_in equal.1) ∙ x.is;
        pairs_are = ap (named_pairs rs ss w.first) (ingredient_is w.first label h.left h.left_is ∙ x.is);
      }

  -- the pairs of what is named are those of the two manifests
  label_pairs_are : (n m : ℕ) (w : Correspond rs ss n m) (i : Ingredient) (name : List ℕ)
      (c : Targets hash said rs ss f g alike n m w i name)
      → label_pairs rs ss w.first i (Some name) ≡ target_pairs w.first i i.signature name (Some c.first.child)
      (Some c.second.child)
  label_pairs_are n m w i name c =
      ap (λ o. target_pairs w.first i i.signature name o (other_named ss name)) c.first_named
      ∙ ap (target_pairs w.first i i.signature name (Some c.first.child)) c.second_named

  -- of an entry with the label of an ingredient the first difference is real evidence
  ingredient_real : (n m : ℕ) (w : Correspond rs ss n m) (e : Ref) (label : List ℕ)
      → Contains (entries_in w.first) e
      → entry_label w.first.manifest e ≡ Some label → is_ingredient_kind (label_kind label) ≡ true
      → (p : ListPair)
      → find do_differ (box_pair w.first w.second e label ∷ named_pairs rs ss w.first
      (ingredient_with w.first label)) ≡ Some p
      → IsShown hash said rs ss p
  ingredient_real n m w e label listed is kind p found =
      let h = ingredient_boxes n m w e label listed is kind in
      elim (found_pair (box_pair w.first w.second e label)
      (named_pairs rs ss w.first (ingredient_with w.first label)) p found) [
        | inl own ↦ subst (IsShown hash said rs ss) own.0
            (box_shown hash said rs ss f g alike n m w e label h own.1)
        | inr rest ↦
            let x = one_ingredient n m w e label h kind rest.0 in
            by h x (named_by (Some x.ingredient)) refl (sym (ap (find do_differ) x.pairs_are) ∙ rest.1)
      ]
    where
      by : (h : BothBoxes hash w.first w.second e label) (x : OneIngredient n m w e label h)
          (o : Option (List ℕ)) → named_by (Some x.ingredient) ≡ o
          → find do_differ (label_pairs rs ss w.first x.ingredient o) ≡ Some p → IsShown hash said rs ss p
      by h x None names more = absurd (cc (more))
      by h x (Some name) names more =
          let c = targets hash said rs ss f g alike n m w e label h x.ingredient name x.left_is x.right_is
          kind names in
          target_shown hash said rs ss f g alike n m w x.ingredient name c x.ingredient.signature
          c.first.binds c.second.binds p
          (sym (ap (find do_differ) (label_pairs_are n m w x.ingredient name c)) ∙ more)

  -- The boxes with this label read as one ingredient, and what it names corresponds.
  pub record Linked (n m : ℕ) (w : Correspond rs ss n m) (label : List ℕ) : Type 0 where
    pub left : ReadBox
    pub left_found : box_with w.first label ≡ Some left
    pub right : ReadBox
    pub right_found : box_with w.second label ≡ Some right
    pub ingredient : Ingredient
    pub left_is : value_in left.ingredient ≡ Some ingredient
    pub right_is : value_in right.ingredient ≡ Some ingredient
    pub named : (name : List ℕ) → named_by (Some ingredient) ≡ Some name
        → (c : Targets hash said rs ss f g alike n m w ingredient name) × Correspond rs ss c.first.place
        c.second.place

  -- without a difference an entry with the label of an ingredient is linked
  ingredient_same : (n m : ℕ) (w : Correspond rs ss n m) (e : Ref) (label : List ℕ)
      → Contains (entries_in w.first) e
      → entry_label w.first.manifest e ≡ Some label → is_ingredient_kind (label_kind label) ≡ true
      → find do_differ (box_pair w.first w.second e label ∷ named_pairs rs ss w.first
      (ingredient_with w.first label)) ≡ None
      → Linked n m w label
  ingredient_same n m w e label listed is kind none =
      let h = ingredient_boxes n m w e label listed is kind in
      let both =
      none_pair (box_pair w.first w.second e label)
      (named_pairs rs ss w.first (ingredient_with w.first label)) none in
      let x = one_ingredient n m w e label h kind both.0 in
      record {
        left = h.left;
        left_found = h.left_is;
        right = h.right;
        right_found = h.right_is;
        ingredient = x.ingredient;
        left_is = x.left_is;
        right_is = x.right_is;
        named = λ name names.
            let c = targets hash said rs ss f g alike n m w e label h x.ingredient name x.left_is
            x.right_is kind names in
            let rest : find do_differ (label_pairs rs ss w.first x.ingredient (Some name)) ≡ None =
            ap (λ o. find do_differ (label_pairs rs ss w.first x.ingredient o)) (sym names)
            ∙ sym (ap (find do_differ) x.pairs_are) ∙ both.1 in
            let claims =
            target_same hash said rs ss f g alike n m w x.ingredient name c x.ingredient.signature
            (sym (ap (find do_differ) (label_pairs_are n m w x.ingredient name c)) ∙ rest) in
            (c, targets_correspond hash said rs ss f g alike n m w x.ingredient name c claims);
      }

  -- ---- all entries of a manifest

  -- the pairs that lead on are those of both manifests
  ingredients_are : (n m : ℕ) (w : Correspond rs ss n m)
      → ingredients_at rs ss n ≡ entry_pairs (ingredient_pairs rs ss w.first w.second) w.first
  ingredients_are n m w =
      pairs_are (λ place r s. entry_pairs (ingredient_pairs rs ss r s) r) rs ss n w.first w.second
      w.first_reached w.first_at
      (counterpart_is hash said rs ss f g alike n m w)

  -- the first difference among them is real evidence
  pub ingredients_real : (n m : ℕ) (w : Correspond rs ss n m) (p : ListPair)
      → find do_differ (ingredients_at rs ss n) ≡ Some p → IsShown hash said rs ss p
  ingredients_real n m w p found =
      let x = found_entry (ingredient_pairs rs ss w.first w.second) w.first p
      (sym (ap (find do_differ) (ingredients_are n m w)) ∙ found) in
      by x (is_ingredient_kind (label_kind x.label)) refl x.found
    where
      by : (x : FoundEntry (ingredient_pairs rs ss w.first w.second) w.first p) (b : Bool)
          → is_ingredient_kind (label_kind x.label) ≡ b
          → find do_differ (cond b
          (box_pair w.first w.second x.entry x.label ∷ named_pairs rs ss w.first
          (ingredient_with w.first x.label)) []) ≡ Some p
          → IsShown hash said rs ss p
      by x true kind own = ingredient_real n m w x.entry x.label x.lists x.is_label kind p own
      by x false kind own = absurd (cc (own))

  -- without a difference each entry with the label of an ingredient is linked
  ingredients_same : (n m : ℕ) (w : Correspond rs ss n m) → find do_differ (ingredients_at rs ss n) ≡ None
      → (e : Ref) (label : List ℕ)
      → Contains (entries_in w.first) e → entry_label w.first.manifest e ≡ Some label
      → is_ingredient_kind (label_kind label) ≡ true
      → Linked n m w label
  ingredients_same n m w none e label listed is kind =
      let one =
      none_entry (ingredient_pairs rs ss w.first w.second) w.first
      (sym (ap (find do_differ) (ingredients_are n m w)) ∙ none) e label listed is in
      ingredient_same n m w e label listed is kind
      (sym (ap (λ b. find do_differ
      (cond b (box_pair w.first w.second e label ∷ named_pairs rs ss w.first
      (ingredient_with w.first label)) [])) kind) ∙ one)

  -- ---- the step, both ways

  -- what a link names in the first store is the manifest with this label
  landed : (n m : ℕ) (w : Correspond rs ss n m) (label : List ℕ) (l : Linked n m w label) (b : ReadBox)
      → box_with w.first label ≡ Some b → (own : Ingredient) → value_in b.ingredient ≡ Some own
      → (name : List ℕ) → named_by (Some own) ≡ Some name → (j : ℕ) (child : Reading)
      → slice_get rs j ≡ Some child → label_in child ≡ name
      → (i : ℕ) × Correspond rs ss j i × IsChild ss m i
  landed n m w label l b found own reads name names j child at is =
      by (l.named name (ap (λ z. named_by (Some z)) same ∙ names))
    where
      box : l.left ≡ b
      box = one_value (box_with w.first label) l.left b l.left_found found

      same : l.ingredient ≡ own
      same =
          one_value (value_in b.ingredient) l.ingredient own
          (sym (ap (λ (x : ReadBox). value_in x.ingredient) box) ∙ l.left_is) reads

      by : (c : Targets hash said rs ss f g alike n m w l.ingredient name)
          × Correspond rs ss c.first.place c.second.place
          → (i : ℕ) × Correspond rs ss j i × IsChild ss m i
      by r =
          let place : r.0.first.place ≡ j =
          f.tree.differ r.0.first.place j r.0.first.child child r.0.first.at_place at
          (r.0.first.labelled ∙ sym is) in
          (r.0.second.place, subst (λ k. Correspond rs ss k r.0.second.place) place r.1, r.0.second_child)

  -- what a link names in the second store is the manifest with this label
  landed_back : (n m : ℕ) (w : Correspond rs ss n m) (label : List ℕ) (l : Linked n m w label) (b : ReadBox)
      → box_with w.second label ≡ Some b → (own : Ingredient) → value_in b.ingredient ≡ Some own
      → (name : List ℕ) → named_by (Some own) ≡ Some name → (i : ℕ) (child : Reading)
      → slice_get ss i ≡ Some child → label_in child ≡ name
      → (j : ℕ) × Correspond rs ss j i × IsChild rs n j
  landed_back n m w label l b found own reads name names i child at is =
      by (l.named name (ap (λ z. named_by (Some z)) same ∙ names))
    where
      box : l.right ≡ b
      box = one_value (box_with w.second label) l.right b l.right_found found

      same : l.ingredient ≡ own
      same =
          one_value (value_in b.ingredient) l.ingredient own
          (sym (ap (λ (x : ReadBox). value_in x.ingredient) box) ∙ l.right_is) reads

      by : (c : Targets hash said rs ss f g alike n m w l.ingredient name)
          × Correspond rs ss c.first.place c.second.place
          → (j : ℕ) × Correspond rs ss j i × IsChild rs n j
      by r =
          let place : r.0.second.place ≡ i =
          g.tree.differ r.0.second.place i r.0.second.child child r.0.second.at_place at
          (r.0.second.labelled ∙ sym is) in
          (r.0.first.place, subst (λ k. Correspond rs ss r.0.first.place k) place r.1, r.0.first_child)

  -- from a manifest of the first store to a child
  pub step : (n m : ℕ) → Correspond rs ss n m → find do_differ (ingredients_at rs ss n) ≡ None → (j : ℕ)
      → IsChild rs n j
      → (i : ℕ) × Correspond rs ss j i × IsChild ss m i
  step n m w none j c =
      let user : c.user ≡ w.first = one_value (slice_get rs n) c.user w.first c.is_user w.first_at in
      let listed : Contains w.first.boxes c.box =
      subst (λ (r : Reading). Contains r.boxes c.box) user c.has_box in
      let by = names_by c.box (label_in c.child) c.names in
      let x = entered hash said rs f n w.first w.first_at w.first_reached c.box by.0 listed by.1 in
      let l = ingredients_same n m w none x.entry x.label x.lists x.is_label x.kind in
      landed n m w x.label l c.box x.found by.0 by.1 (label_in c.child) by.2 j c.child c.is_child refl

  -- from its counterpart in the second to a child
  pub step_back : (n m : ℕ) → Correspond rs ss n m → find do_differ (ingredients_at rs ss n) ≡ None → (i : ℕ)
      → IsChild ss m i
      → (j : ℕ) × Correspond rs ss j i × IsChild rs n j
  step_back n m w none i c =
      let user : c.user ≡ w.second = one_value (slice_get ss m) c.user w.second c.is_user w.second_at in
      let listed : Contains w.second.boxes c.box =
      subst (λ (r : Reading). Contains r.boxes c.box) user c.has_box in
      let by = names_by c.box (label_in c.child) c.names in
      let x = entered hash said ss g m w.second w.second_at w.second_reached c.box by.0 listed by.1 in
      let first =
      one_entry w.second w.first x.entry (sym (one_claim hash said rs ss f g alike n m w)) x.lists in
      let l = ingredients_same n m w none x.entry x.label first
      (label_first hash said rs ss f g alike n m w x.entry x.label x.lists x.is_label) x.kind in
      landed_back n m w x.label l c.box x.found by.0 by.1 (label_in c.child) by.2 i c.child c.is_child refl
