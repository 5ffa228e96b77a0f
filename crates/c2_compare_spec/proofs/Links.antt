-- What an entry of corresponding manifests binds: its box in both stores, and what an ingredient in it names.
use Rattle.std.proofs.Common.{◌≡◌, ◌≢◌, inl, inr, ℕ, ◌+◌, ◌-◌, ◌<◌, true, false, cond, bytes_eq, List, [], ◌∷◌, Option, Some, None, Contains, slice_get, length, take, refl, sym, ap, ◌∙◌, subst, arith}
use Rattle.std.specs.List.{find}
use Rattle.std.specs.Option.{unwrap_or, option_and_then, option_map_or}
use Rattle.std.proofs.lemmas.Bool.Decides.{Decides-eqb}
use Rattle.std.proofs.lemmas.Option.{slice_get_within}
use Rattle.std.proofs.lemmas.Slice.Eq.{bytes_eq-Decides}
use Rattle.c2_base.specs.declared.values.Question.{Question}
use Rattle.c2_spec.specs.C2pa.Manifest.{Manifest, Superbox, claim_bytes}
use Rattle.c2_spec.specs.C2pa.Sign1.{SignParts, SpellsMessage, question_of}
use Rattle.c2_spec.specs.Digest.{alg_named}
use Rattle.c2_spec.specs.declared.assertion.Ingredient.{Ingredient}
use Rattle.c2_spec.specs.declared.assertion.Kind.{Kind}
use Rattle.c2_spec.specs.declared.assertion.Kind.TheVariants as kinds
use Rattle.c2_spec.specs.declared.cbor.Ref.{Ref}
use Rattle.c2_spec.specs.declared.digest.Alg.{Alg}
use Rattle.c2_spec.specs.declared.panel.Verdict.{Verdict}
use Rattle.c2_spec.proofs.GivenLabels.{given_is}
use Rattle.c2_rules.proofs.ReachLemmas.{reached_decides, redacted_decides}
use Rattle.c2_rules.specs.Chains.{label_in, named_by, entry_label, IsChild, is_active, is_reached, is_redacted}
use Rattle.c2_rules.specs.Chains.Reached.{below}
use Rattle.c2_rules.specs.CheckList.{active_in}
use Rattle.c2_rules.specs.Ingredients.{is_ingredient_kind}
use Rattle.c2_rules.specs.Readings.{ReadBox, Reading, value_in, entries_of, entries_in}
use Rattle.c2_rules.specs.Rules.{alg_or, claim_alg, alg_in, box_with, is_labelled, label_kind, is_binding}
use Rattle.c2_compare_spec.specs.ChainContent.{claim_bytes_of}
use Rattle.c2_compare_spec.specs.Correspondence.{Correspond}
use Rattle.c2_compare_spec.specs.Differences.{other_named, counterpart, no_superbox, contents_with, signature_box, claim_list, whole_contents, box_pair, signature_pair, claim_pair, whole_pair, target_pairs, ingredient_with}
use Rattle.c2_compare_spec.specs.Evidence.{ListPair, do_differ, IsReal}
use Rattle.c2_compare_spec.specs.Lists.{IsReachedAt, IsListIn}
use Rattle.c2_compare_spec.specs.Lists.IsListIn.{of_box, of_signature, of_claim, of_manifest}
use Rattle.c2_compare_spec.proofs.Alike.{claims_alike, box_reads, ingredients_alike, one_label}
use Rattle.c2_spec.proofs.OneMessage.{same_message}
use Rattle.c2_cbor_spec.proofs.PlainBack.{one_item}
use Rattle.c2_compare_spec.proofs.Facts.{SeenAlike, IsApproved, HasBox, is_unredactable, BySignature, ByContents, Binds, NamedFact, StoreFacts, IsShown}
use Rattle.c2_compare_spec.proofs.Lists.{bool_cases, find_says, find_only, in_front}
use Rattle.c2_compare_spec.proofs.Pairs.{found_pair, found_only, none_pair}
use Rattle.c2_lemmas.proofs.Bools.{true_and_false}
use Rattle.c2_lemmas.proofs.Lists.{get_in_front}
use Rattle.c2_lemmas.proofs.Options.{one_value}

-- ---- kinds

-- no claim may redact an ingredient
pub ingredient_stays : (kind : Kind) → is_ingredient_kind kind ≡ true → is_unredactable kind ≡ true
ingredient_stays kinds.Ingredient e = refl
ingredient_stays kinds.DataHash e = absurd cc
ingredient_stays kinds.BmffHash e = absurd cc
ingredient_stays kinds.OtherHash e = absurd cc
ingredient_stays kinds.IngredientOther e = absurd cc
ingredient_stays kinds.Actions e = absurd cc
ingredient_stays kinds.Cloud e = absurd cc
ingredient_stays kinds.Ordinary e = absurd cc

-- no claim may redact a binding
pub binding_stays : (kind : Kind) → is_binding kind ≡ true → is_unredactable kind ≡ true
binding_stays kinds.DataHash e = refl
binding_stays kinds.BmffHash e = refl
binding_stays kinds.Ingredient e = absurd cc
binding_stays kinds.OtherHash e = absurd cc
binding_stays kinds.IngredientOther e = absurd cc
binding_stays kinds.Actions e = absurd cc
binding_stays kinds.Cloud e = absurd cc
binding_stays kinds.Ordinary e = absurd cc

-- ---- one manifest

-- the box that is found by a label is a box of the manifest with this label
pub box_says : (r : Reading) (label : List ℕ) (b : ReadBox) → box_with r label ≡ Some b
    → Contains r.boxes b × (b.boxed.label ≡ Some label)
box_says r label b e = let f =
    find_says (is_labelled label) r.boxes b e in (f.0, given_is b.boxed.label label f.1)

-- the contents of the box that is found by a label are those with the label
pub contents_are : (r : Reading) (label : List ℕ) (b : ReadBox) → box_with r label ≡ Some b
    → contents_with r label ≡ b.boxed.contents
contents_are r label b e = ap (λ o. option_map_or (λ (x : ReadBox). x.boxed.contents) o []) e

-- the ingredient of the box that is found by a label is that with the label
pub ingredient_is : (r : Reading) (label : List ℕ) (b : ReadBox) → box_with r label ≡ Some b
    → ingredient_with r label ≡ value_in b.ingredient
ingredient_is r label b e = ap (option_and_then (λ (x : ReadBox). value_in x.ingredient)) e

-- ---- one store

module _ (hash : Alg → List ℕ → List ℕ) (said : Question → Verdict) (rs : List Reading)
    (f : StoreFacts hash said rs) where
  -- what no claim may redact isn't redacted
  pub stays : (n : ℕ) (label : List ℕ) → is_unredactable (label_kind label) ≡ true
      → is_redacted rs n label ≡ false
  stays n label kind =
      elim (bool_cases (is_redacted rs n label)) [
        | inl redacted ↦
            let r = (redacted_decides rs f.tree.differ n label).0 redacted in
            let facts =
            f.manifests r.place r.redactor r.at_place
            ((reached_decides rs f.tree.differ r.place).1 r.reached) in
            true_and_false (is_unredactable (label_kind label)) kind
            (facts.redactions r.text r.lists (label_in r.target) label r.names)
        | inr kept ↦ kept
      ]

  -- a label leads to the manifest that has it, where this isn't the active one
  pub label_leads : (n : ℕ) (r : Reading) (label : List ℕ) → slice_get rs n ≡ Some r → label_in r ≡ label
      → n + 1 < length rs
      → other_named rs label ≡ Some r
  label_leads n r label at is lt =
      find_only (λ (x : Reading). bytes_eq (label_in x) label) (take (length rs - 1) rs) n r
      (get_in_front rs (length rs - 1) n (omega arith) ∙ at)
      ((bytes_eq-Decides (label_in r) label).1 is)
      (λ j y there t. f.tree.differ j n y r (in_front rs (length rs - 1) j y there) at
      ((bytes_eq-Decides (label_in y) label).0 t ∙ sym is))

  -- the box of an entry that isn't redacted
  pub entry_box : (n : ℕ) (r : Reading) (e : Ref) (label : List ℕ) → slice_get rs n ≡ Some r
      → is_reached rs n ≡ true
      → Contains (entries_in r) e → entry_label r.manifest e ≡ Some label → is_redacted rs n label ≡ false
      → (alg : Alg) × (alg_named (alg_in r e.alg) ≡ Some alg) × HasBox hash alg r label e.hash
  entry_box n r e label at reached listed is kept =
      let x = (f.manifests n r at reached).entries e listed in
      let same : x.label ≡ label = one_value (entry_label r.manifest e) x.label label x.is_label is in (
        x.alg,
        x.known,
        subst (λ l. HasBox hash x.alg r l e.hash) same
            (x.there (ap (is_redacted rs n) same ∙ kept)),
      )

  -- a child of a reached manifest is reached
  pub child_reached : (n m : ℕ) → is_reached rs n ≡ true → IsChild rs n m → is_reached rs m ≡ true
  child_reached n m reached c =
      (reached_decides rs f.tree.differ m).1 (below n m ((reached_decides rs f.tree.differ n).0 reached) c)

  -- a manifest that stands earlier than another isn't the active one
  pub earlier_inactive : (n m : ℕ) → m < n → n < length rs → is_active rs m ≡ false
  earlier_inactive n m lt within =
      elim (bool_cases (is_active rs m)) [
        | inl active ↦ let last : m + 1 ≡ length rs =
            (Decides-eqb (m + 1) (length rs)).0 active in absurd (omega arith)
        | inr other ↦ other
      ]

-- ---- two manifests with one claim

-- The boxes of an entry in two manifests, with one digest.
pub record BothBoxes (hash : Alg → List ℕ → List ℕ) (r s : Reading) (e : Ref) (label : List ℕ) : Type 0 where
  pub alg : Alg
  pub known : alg_named (alg_in r e.alg) ≡ Some alg
  pub left : ReadBox
  pub left_is : box_with r label ≡ Some left
  pub right : ReadBox
  pub right_is : box_with s label ≡ Some right
  pub same_digest : hash alg left.boxed.contents ≡ hash alg right.boxed.contents

-- two manifests with one claim have one algorithm for what names none
pub one_alg : (r s : Reading) (own : Option (List ℕ)) → r.claim ≡ s.claim → alg_in r own ≡ alg_in s own
one_alg r s own e = ap (λ c. alg_or own (claim_alg (value_in c))) e

-- two manifests with one claim have the same entries
pub one_entry : (r s : Reading) (e : Ref) → r.claim ≡ s.claim → Contains (entries_in r) e
    → Contains (entries_in s) e
one_entry r s e claim listed = subst (λ c. Contains (entries_of (value_in c)) e) claim listed

-- ---- two stores

module _ (hash : Alg → List ℕ → List ℕ) (said : Question → Verdict) (rs ss : List Reading)
    (f : StoreFacts hash said rs)
    (g : StoreFacts hash said ss) (alike : SeenAlike rs ss) where
  -- corresponding manifests have one claim
  pub one_claim : (n m : ℕ) (w : Correspond rs ss n m) → w.first.claim ≡ w.second.claim
  one_claim n m w =
      let p = (f.manifests n w.first w.first_at w.first_reached).approved in
      let q = (g.manifests m w.second w.second_at w.second_reached).approved in
      claims_alike w.first w.second (f.tree.reads n w.first w.first_at)
      (g.tree.reads m w.second w.second_at) w.claims p.claim q.claim p.has_claim q.has_claim

  -- an entry lists the label in the second that it lists in the first
  pub label_second : (n m : ℕ) (w : Correspond rs ss n m) (e : Ref) (label : List ℕ)
      → Contains (entries_in w.first) e
      → entry_label w.first.manifest e ≡ Some label → entry_label w.second.manifest e ≡ Some label
  label_second n m w e label listed is =
      let x = (g.manifests m w.second w.second_at w.second_reached).entries e
      (one_entry w.first w.second e (one_claim n m w) listed) in
      x.is_label ∙ ap Some (one_label w.second.manifest w.first.manifest e x.label label x.is_label is)

  -- an entry lists the label in the first manifest that it lists in the second
  pub label_first : (n m : ℕ) (w : Correspond rs ss n m) (e : Ref) (label : List ℕ)
      → Contains (entries_in w.second) e
      → entry_label w.second.manifest e ≡ Some label → entry_label w.first.manifest e ≡ Some label
  label_first n m w e label listed is =
      let x = (f.manifests n w.first w.first_at w.first_reached).entries e
      (one_entry w.second w.first e (sym (one_claim n m w)) listed) in
      x.is_label ∙ ap Some (one_label w.first.manifest w.second.manifest e x.label label x.is_label is)

  -- the second is the counterpart of the first
  pub counterpart_is : (n m : ℕ) (w : Correspond rs ss n m) → counterpart rs ss n w.first ≡ Some w.second
  counterpart_is n m w =
      elim (bool_cases (is_active rs n)) [
        | inl active ↦
            let last : m + 1 ≡ length ss = (Decides-eqb (m + 1) (length ss)).0 (sym w.active ∙ active) in
            let same : length ss - 1 ≡ m = omega arith in
            ap (λ b. cond b (active_in ss) (other_named ss (label_in w.first))) active
            ∙ ap (slice_get ss) same ∙ w.second_at
        | inr other ↦
            let within : m < length ss = slice_get_within ss m w.second w.second_at in
            let not_last : m + 1 ≢ length ss =
            λ e. true_and_false (is_active ss m) ((Decides-eqb (m + 1) (length ss)).1 e) (sym w.active ∙ other) in
            ap (λ b. cond b (active_in ss) (other_named ss (label_in w.first))) other
            ∙ label_leads hash said ss g m w.second (label_in w.first) w.second_at (sym (w.label other))
            (omega (arith, within, not_last))
      ]

  -- the boxes of an entry that is redacted in neither
  pub both_boxes : (n m : ℕ) (w : Correspond rs ss n m) (e : Ref) (label : List ℕ)
      → Contains (entries_in w.first) e
      → entry_label w.first.manifest e ≡ Some label → is_redacted rs n label ≡ false
      → is_redacted ss m label ≡ false
      → BothBoxes hash w.first w.second e label
  both_boxes n m w e label listed is kept kept' =
      let claim = one_claim n m w in
      let a = entry_box hash said rs f n w.first e label w.first_at w.first_reached listed is kept in
      let b = entry_box hash said ss g m w.second e label w.second_at w.second_reached
      (one_entry w.first w.second e claim listed) (label_second n m w e label listed is) kept' in
      let one : a.0 ≡ b.0 =
      one_value (alg_named (alg_in w.first e.alg)) a.0 b.0 a.1
      (ap alg_named (one_alg w.first w.second e.alg claim) ∙ b.1) in
      record {
        alg = a.0;
        known = a.1;
        left = a.2.box;
        left_is = a.2.has_box;
        right = b.2.box;
        right_is = b.2.has_box;
        same_digest = a.2.digested ∙ sym b.2.digested ∙ ap (λ x. hash x b.2.box.boxed.contents) (sym one);
      }

  -- where the boxes of an entry differ, that is real evidence
  pub box_real : (n m : ℕ) (w : Correspond rs ss n m) (e : Ref) (label : List ℕ)
      → BothBoxes hash w.first w.second e label
      → (box_pair w.first w.second e label).left ≢ (box_pair w.first w.second e label).right
      → IsReal hash said (box_pair w.first w.second e label)
  box_real n m w e label h differ = record {
    alg = h.alg;
    known = h.known;
    differ = differ;
    same_digest =
        ap (hash h.alg) (contents_are w.first label h.left h.left_is) ∙ h.same_digest
        ∙ ap (hash h.alg) (sym (contents_are w.second label h.right h.right_is));
  }

  -- where the lists of two boxes differ, they are lists of both stores
  pub box_shown : (n m : ℕ) (w : Correspond rs ss n m) (e : Ref) (label : List ℕ)
      → BothBoxes hash w.first w.second e label
      → (box_pair w.first w.second e label).left ≢ (box_pair w.first w.second e label).right
      → IsShown hash said rs ss (box_pair w.first w.second e label)
  box_shown n m w e label h differ =
      let a : IsReachedAt rs n w.first = record { at_place = w.first_at; reached = w.first_reached } in
      let b : IsReachedAt ss m w.second = record { at_place = w.second_at; reached = w.second_reached } in
      record {
        real = box_real n m w e label h differ;
        left =
            subst (IsListIn rs) (sym (contents_are w.first label h.left h.left_is))
            (of_box n w.first a h.left (box_says w.first label h.left h.left_is).0);
        right =
            subst (IsListIn ss) (sym (contents_are w.second label h.right h.right_is))
            (of_box m w.second b h.right (box_says w.second label h.right h.right_is).0);
      }

  -- where the lists of an entry's boxes are equal, the boxes are and their ingredients
  pub box_same : (n m : ℕ) (w : Correspond rs ss n m) (e : Ref) (label : List ℕ)
      (h : BothBoxes hash w.first w.second e label)
      → (box_pair w.first w.second e label).left ≡ (box_pair w.first w.second e label).right
      → (h.left.boxed ≡ h.right.boxed) × (h.left.ingredient ≡ h.right.ingredient)
  box_same n m w e label h same =
      let in_first = box_says w.first label h.left h.left_is in
      let in_second = box_says w.second label h.right h.right_is in
      let contents =
      sym (contents_are w.first label h.left h.left_is) ∙ same
      ∙ contents_are w.second label h.right h.right_is in
      let box =
      alike.boxes n m w.first w.second w.first_at w.second_at h.left h.right in_first.0 in_second.0
      contents in (
        box,
        ingredients_alike h.left h.right
            (box_reads w.first (f.tree.reads n w.first w.first_at) h.left in_first.0)
            (box_reads w.second (g.tree.reads m w.second w.second_at) h.right in_second.0) box,
      )

  -- ---- what an ingredient names in both stores

  -- The manifests that an ingredient of both manifests names by this label.
  pub record Targets (n m : ℕ) (w : Correspond rs ss n m) (i : Ingredient) (name : List ℕ) : Type 0 where
    pub first : NamedFact hash rs n w.first i name
    pub second : NamedFact hash ss m w.second i name
    pub first_named : other_named rs name ≡ Some first.child
    pub second_named : other_named ss name ≡ Some second.child
    pub first_child : IsChild rs n first.place
    pub second_child : IsChild ss m second.place
    pub first_reached : is_reached rs first.place ≡ true
    pub second_reached : is_reached ss second.place ≡ true

  -- the manifests that an ingredient names are there where the ingredient is read of a box of each
  pub targets : (n m : ℕ) (w : Correspond rs ss n m) (e : Ref) (label : List ℕ)
      (h : BothBoxes hash w.first w.second e label) (i : Ingredient) (name : List ℕ)
      → value_in h.left.ingredient ≡ Some i → value_in h.right.ingredient ≡ Some i
      → is_ingredient_kind (label_kind label) ≡ true
      → named_by (Some i) ≡ Some name → Targets n m w i name
  targets n m w e label h i name left right kind names =
      let b = box_says w.first label h.left h.left_is in
      let c = box_says w.second label h.right h.right_is in
      let x = (f.manifests n w.first w.first_at w.first_reached).ingredients h.left b.0 label b.1 kind in
      let y = (g.manifests m w.second w.second_at w.second_reached).ingredients h.right c.0 label c.1 kind in
      let own : x.ingredient ≡ i = one_value (value_in h.left.ingredient) x.ingredient i x.is left in
      let other : y.ingredient ≡ i = one_value (value_in h.right.ingredient) y.ingredient i y.is right in
      let p : NamedFact hash rs n w.first i name =
      subst (λ z. NamedFact hash rs n w.first z name) own
      (x.named name (ap (λ z. named_by (Some z)) own ∙ names)) in
      let q : NamedFact hash ss m w.second i name =
      subst (λ z. NamedFact hash ss m w.second z name) other
      (y.named name (ap (λ z. named_by (Some z)) other ∙ names)) in
      let first_within = slice_get_within rs n w.first w.first_at in
      let second_within = slice_get_within ss m w.second w.second_at in
      let first_earlier = p.earlier in
      let second_earlier = q.earlier in
      let first_child : IsChild rs n p.place = record {
        earlier = p.earlier;
        user = w.first;
        is_user = w.first_at;
        box = h.left;
        has_box = b.0;
        child = p.child;
        is_child = p.at_place;
        names = ap named_by left ∙ names ∙ ap Some (sym p.labelled);
      } in
      let second_child : IsChild ss m q.place = record {
        earlier = q.earlier;
        user = w.second;
        is_user = w.second_at;
        box = h.right;
        has_box = c.0;
        child = q.child;
        is_child = q.at_place;
        names = ap named_by right ∙ names ∙ ap Some (sym q.labelled);
      } in
      record {
        first = p;
        second = q;
        first_named = label_leads hash said rs f p.place p.child name p.at_place p.labelled (omega arith);
        second_named = label_leads hash said ss g q.place q.child name q.at_place q.labelled (omega arith);
        first_child = first_child;
        second_child = second_child;
        first_reached = child_reached hash said rs f n p.place w.first_reached first_child;
        second_reached = child_reached hash said ss g m q.place w.second_reached second_child;
      }

  -- where their claim bytes are equal they correspond
  pub targets_correspond : (n m : ℕ) (w : Correspond rs ss n m) (i : Ingredient) (name : List ℕ)
      (c : Targets n m w i name)
      → claim_bytes_of c.first.child ≡ claim_bytes_of c.second.child
      → Correspond rs ss c.first.place c.second.place
  targets_correspond n m w i name c claims = record {
    first = c.first.child;
    first_at = c.first.at_place;
    second = c.second.child;
    second_at = c.second.at_place;
    first_reached = c.first_reached;
    second_reached = c.second_reached;
    active =
        earlier_inactive hash said rs f n c.first.place c.first.earlier
        (slice_get_within rs n w.first w.first_at)
        ∙ sym (earlier_inactive hash said ss g m c.second.place c.second.earlier
        (slice_get_within ss m w.second w.second_at));
    label = λ inactive. c.first.labelled ∙ sym c.second.labelled;
    claims = claims;
  }

  -- the signature box of a manifest that is there
  box_of : (r : Reading) (b : Superbox) → r.manifest.signature ≡ Some b → signature_box (Some r) ≡ b
  box_of r b e = ap (λ o. unwrap_or o no_superbox) e

  -- the claim bytes of a manifest that is there
  list_of : (r : Reading) (bytes : List ℕ) → claim_bytes_of r ≡ Some bytes → claim_list (Some r) ≡ bytes
  list_of r bytes e = ap (λ o. unwrap_or o []) e

  -- ---- with a reference to the signature

  -- the signature boxes have one digest; where they differ, that is real evidence
  signature_real : (n m : ℕ) (w : Correspond rs ss n m) (name : List ℕ) (a b : Reading) (ref : Ref)
      → BySignature hash w.first a ref → BySignature hash w.second b ref
      → (signature_box (Some a)).contents ≢ (signature_box (Some b)).contents
      → IsReal hash said (signature_pair w.first ref name (Some a) (Some b))
  signature_real n m w name a b ref x y differ =
      let one : x.alg ≡ y.alg =
      one_value (alg_named (alg_in w.first ref.alg)) x.alg y.alg x.known
      (ap alg_named (one_alg w.first w.second ref.alg (one_claim n m w)) ∙ y.known) in
      record {
        alg = x.alg;
        known = x.known;
        differ = differ;
        same_digest =
            ap (λ (z : Superbox). hash x.alg z.contents) (box_of a x.box x.has_box) ∙ x.digested
            ∙ sym y.digested
            ∙ ap (λ z. hash z y.box.contents) (sym one)
            ∙ ap (λ (z : Superbox). hash x.alg z.contents) (sym (box_of b y.box y.has_box));
      }

  -- where the signature boxes are equal, both claims are approved under one message; where the claims differ, that is real evidence
  claims_real : (n m : ℕ) (w : Correspond rs ss n m) (i : Ingredient) (name : List ℕ)
      (c : Targets n m w i name) (ref : Ref) → BySignature hash w.first c.first.child ref
      → BySignature hash w.second c.second.child ref
      → (signature_box (Some c.first.child)).contents ≡ (signature_box (Some c.second.child)).contents
      → claim_list (Some c.first.child) ≢ claim_list (Some c.second.child)
      → IsReal hash said (claim_pair name (Some c.first.child) (Some c.second.child))
  claims_real n m w i name c ref x y same differ =
      let a = c.first.child in
      let b = c.second.child in
      let p : IsApproved said c.first.child =
      (f.manifests c.first.place a c.first.at_place c.first_reached).approved in
      let q : IsApproved said c.second.child =
      (g.manifests c.second.place b c.second.at_place c.second_reached).approved in
      let contents : p.box.contents ≡ q.box.contents =
      ap (λ (z : Superbox). z.contents) (sym (box_of c.first.child p.box p.has_box)) ∙ same
      ∙ ap (λ (z : Superbox). z.contents) (box_of c.second.child q.box q.has_box) in
      let box : p.box ≡ q.box =
      alike.signatures c.first.place c.second.place a b c.first.at_place c.second.at_place p.box q.box
      p.has_box q.has_box contents in
      let item : p.item ≡ q.item =
      one_value p.box.item p.item q.item p.has_item (ap (λ (z : Superbox). z.item) box ∙ q.has_item) in
      let parts : p.parts ≡ q.parts =
      same_message one_item p.item p.parts q.parts p.is_message
      (subst (λ z. SpellsMessage z q.parts) (sym item) q.is_message) in
      record {
        item = p.item;
        has_item = ap (λ (z : Superbox). z.item) (box_of c.first.child p.box p.has_box) ∙ p.has_item;
        parts = p.parts;
        is_message = p.is_message;
        differ = differ;
        left_approved =
            ap (λ z. said (question_of p.parts z)) (list_of c.first.child p.bytes p.has_bytes) ∙ p.approved;
        right_approved =
            ap (λ z. said (question_of p.parts z)) (list_of c.second.child q.bytes q.has_bytes)
            ∙ ap (λ (z : SignParts). said (question_of z q.bytes)) parts ∙ q.approved;
      }

  -- ---- without one

  -- the contents have one digest; where they differ, that is real evidence
  whole_real : (n m : ℕ) (w : Correspond rs ss n m) (i : Ingredient) (name : List ℕ) (a b : Reading)
      → ByContents hash w.first a i → ByContents hash w.second b i
      → whole_contents (Some a) ≢ whole_contents (Some b)
      → IsReal hash said (whole_pair w.first (option_and_then (λ (ref : Ref). ref.alg) i.manifest) name
      (Some a) (Some b))
  whole_real n m w i name a b x y differ =
      let ref : x.reference ≡ y.reference =
      one_value i.manifest x.reference y.reference x.is_reference y.is_reference in
      let alg : option_and_then (λ (z : Ref). z.alg) i.manifest ≡ x.reference.alg =
      ap (option_and_then (λ (z : Ref). z.alg)) x.is_reference in
      let one : x.alg ≡ y.alg =
      one_value (alg_named (alg_in w.first x.reference.alg)) x.alg y.alg x.known
      (ap (λ (z : Ref). alg_named (alg_in w.first z.alg)) ref
      ∙ ap alg_named (one_alg w.first w.second y.reference.alg (one_claim n m w)) ∙ y.known) in
      record {
        alg = x.alg;
        known = ap (λ z. alg_named (alg_in w.first z)) alg ∙ x.known;
        differ = differ;
        same_digest =
            x.digested ∙ ap (λ (z : Ref). z.hash) ref ∙ sym y.digested
            ∙ ap (λ z. hash z b.manifest.contents) (sym one);
      }

  -- ---- either way

  -- the manifests that are named are reached
  first_target : (n m : ℕ) (w : Correspond rs ss n m) (i : Ingredient) (name : List ℕ)
      (c : Targets n m w i name)
      → IsReachedAt rs c.first.place c.first.child
  first_target n m w i name c = record { at_place = c.first.at_place; reached = c.first_reached }

  -- in both stores
  second_target : (n m : ℕ) (w : Correspond rs ss n m) (i : Ingredient) (name : List ℕ)
      (c : Targets n m w i name)
      → IsReachedAt ss c.second.place c.second.child
  second_target n m w i name c = record { at_place = c.second.at_place; reached = c.second_reached }

  -- the signature boxes as evidence
  signature_shown : (n m : ℕ) (w : Correspond rs ss n m) (i : Ingredient) (name : List ℕ)
      (c : Targets n m w i name) (ref : Ref) → BySignature hash w.first c.first.child ref
      → BySignature hash w.second c.second.child ref
      → (signature_box (Some c.first.child)).contents ≢ (signature_box (Some c.second.child)).contents
      → IsShown hash said rs ss (signature_pair w.first ref name (Some c.first.child) (Some c.second.child))
  signature_shown n m w i name c ref x y differ = record {
    real = signature_real n m w name c.first.child c.second.child ref x y differ;
    left =
        subst (λ (z : Superbox). IsListIn rs z.contents) (sym (box_of c.first.child x.box x.has_box))
        (of_signature c.first.place c.first.child (first_target n m w i name c) x.box x.has_box);
    right =
        subst (λ (z : Superbox). IsListIn ss z.contents) (sym (box_of c.second.child y.box y.has_box))
        (of_signature c.second.place c.second.child (second_target n m w i name c) y.box y.has_box);
  }

  -- the claims as evidence
  claims_shown : (n m : ℕ) (w : Correspond rs ss n m) (i : Ingredient) (name : List ℕ)
      (c : Targets n m w i name) (ref : Ref) → BySignature hash w.first c.first.child ref
      → BySignature hash w.second c.second.child ref
      → (signature_box (Some c.first.child)).contents ≡ (signature_box (Some c.second.child)).contents
      → claim_list (Some c.first.child) ≢ claim_list (Some c.second.child)
      → IsShown hash said rs ss (claim_pair name (Some c.first.child) (Some c.second.child))
  claims_shown n m w i name c ref x y same differ =
      let p : IsApproved said c.first.child =
      (f.manifests c.first.place c.first.child c.first.at_place c.first_reached).approved in
      let q : IsApproved said c.second.child =
      (g.manifests c.second.place c.second.child c.second.at_place c.second_reached).approved in
      record {
        real = claims_real n m w i name c ref x y same differ;
        left =
            subst (IsListIn rs) (sym (list_of c.first.child p.bytes p.has_bytes))
            (of_claim c.first.place c.first.child (first_target n m w i name c) p.bytes p.has_bytes);
        right =
            subst (IsListIn ss) (sym (list_of c.second.child q.bytes q.has_bytes))
            (of_claim c.second.place c.second.child (second_target n m w i name c) q.bytes q.has_bytes);
      }

  -- the contents as evidence
  whole_shown : (n m : ℕ) (w : Correspond rs ss n m) (i : Ingredient) (name : List ℕ)
      (c : Targets n m w i name) → ByContents hash w.first c.first.child i
      → ByContents hash w.second c.second.child i
      → whole_contents (Some c.first.child) ≢ whole_contents (Some c.second.child)
      → IsShown hash said rs ss (whole_pair w.first (option_and_then (λ (ref : Ref). ref.alg) i.manifest) name
      (Some c.first.child) (Some c.second.child))
  whole_shown n m w i name c x y differ = record {
    real = whole_real n m w i name c.first.child c.second.child x y differ;
    left = of_manifest c.first.place c.first.child (first_target n m w i name c);
    right = of_manifest c.second.place c.second.child (second_target n m w i name c);
  }

  -- the first difference of what an ingredient binds is evidence
  pub target_shown : (n m : ℕ) (w : Correspond rs ss n m) (i : Ingredient) (name : List ℕ)
      (c : Targets n m w i name) (o : Option Ref) → Binds hash w.first c.first.child i o
      → Binds hash w.second c.second.child i o → (p : ListPair)
      → find do_differ (target_pairs w.first i o name (Some c.first.child) (Some c.second.child)) ≡ Some p
      → IsShown hash said rs ss p
  target_shown n m w i name c None x y p e =
      let own = found_only (whole_pair w.first (option_and_then (λ (ref : Ref). ref.alg) i.manifest) name
      (Some c.first.child) (Some c.second.child)) p e in
      subst (IsShown hash said rs ss) own.0 (whole_shown n m w i name c x y own.1)
  target_shown n m w i name c (Some ref) x y p e =
      elim (found_pair (signature_pair w.first ref name (Some c.first.child) (Some c.second.child))
      (claim_pair name (Some c.first.child) (Some c.second.child) ∷ []) p e) [
        | inl own ↦ subst (IsShown hash said rs ss) own.0 (signature_shown n m w i name c ref x y own.1)
        | inr rest ↦
            let own = found_only (claim_pair name (Some c.first.child) (Some c.second.child)) p rest.1 in
            subst (IsShown hash said rs ss) own.0 (claims_shown n m w i name c ref x y rest.0 own.1)
      ]

  -- without a difference the claim bytes are equal
  pub target_same : (n m : ℕ) (w : Correspond rs ss n m) (i : Ingredient) (name : List ℕ)
      (c : Targets n m w i name) (o : Option Ref)
      → find do_differ (target_pairs w.first i o name (Some c.first.child) (Some c.second.child)) ≡ None
      → claim_bytes_of c.first.child ≡ claim_bytes_of c.second.child
  target_same n m w i name c None e =
      let same =
      none_pair (whole_pair w.first (option_and_then (λ (ref : Ref). ref.alg) i.manifest) name
      (Some c.first.child) (Some c.second.child)) [] e in
      ap (λ (x : Manifest). claim_bytes x.claims)
      (alike.manifests c.first.place c.second.place c.first.child c.second.child c.first.at_place
      c.second.at_place same.0)
  target_same n m w i name c (Some ref) e =
      let first =
      none_pair (signature_pair w.first ref name (Some c.first.child) (Some c.second.child))
      (claim_pair name (Some c.first.child) (Some c.second.child) ∷ []) e in
      let second = none_pair (claim_pair name (Some c.first.child) (Some c.second.child)) [] first.1 in
      let p : IsApproved said c.first.child =
      (f.manifests c.first.place c.first.child c.first.at_place c.first_reached).approved in
      let q : IsApproved said c.second.child =
      (g.manifests c.second.place c.second.child c.second.at_place c.second_reached).approved in
      let same : p.bytes ≡ q.bytes =
      sym (list_of c.first.child p.bytes p.has_bytes) ∙ second.0
      ∙ list_of c.second.child q.bytes q.has_bytes in
      p.has_bytes ∙ ap Some same ∙ sym q.has_bytes
