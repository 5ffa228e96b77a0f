-- Equal chain contents, where no pairs differ; and that the first pair of assertions that differs is real
-- evidence.
use Rattle.std.proofs.Common.{◌≡◌, inl, inr, ℕ, Bool, true, false, cond, List, [], ◌∷◌, Some, None, Contains, slice_get, length, refl, sym, ap, ◌∙◌, subst}
use Rattle.std.specs.List.{find}
use Rattle.c2_base.specs.declared.values.Question.{Question}
use Rattle.c2_spec.specs.declared.cbor.Ref.{Ref}
use Rattle.c2_spec.specs.declared.digest.Alg.{Alg}
use Rattle.c2_spec.specs.declared.panel.Verdict.{Verdict}
use Rattle.std.proofs.lemmas.Option.{slice_get_within}
use Rattle.c2_rules.proofs.ReachLemmas.{reached_decides}
use Rattle.c2_rules.specs.Chains.{label_in, entry_label, is_active, is_redacted}
use Rattle.c2_rules.specs.Readings.{Reading, entries_in}
use Rattle.c2_rules.specs.Rules.{box_with}
use Rattle.c2_compare_spec.specs.ChainContent.{claim_bytes_of, active_claim, key_at, GivesClaim, GivesBox, SameContent}
use Rattle.c2_compare_spec.specs.Correspondence.{Correspond}
use Rattle.c2_compare_spec.specs.Differences.{box_pair, unredacted_pairs, entry_pairs, unredacted_at, all_ingredients, all_unredacted}
use Rattle.c2_compare_spec.specs.Evidence.{ListPair, do_differ}
use Rattle.c2_compare_spec.proofs.Facts.{SeenAlike, StoreFacts, IsShown}
use Rattle.c2_compare_spec.proofs.Links.{BothBoxes, contents_are, one_claim, one_entry, label_first, label_second, counterpart_is, both_boxes, box_shown}
use Rattle.c2_compare_spec.proofs.Lists.{bool_cases, FoundBelow, found_downward, none_downward}
use Rattle.c2_compare_spec.proofs.Pairs.{FoundEntry, found_only, none_pair, found_entry, none_entry, found_reached, pairs_are}
use Rattle.c2_compare_spec.proofs.Walk.{forth, back, redacted_alike}
use Rattle.c2_lemmas.proofs.Options.{one_value}

module _ (hash : Alg → List ℕ → List ℕ) (said : Question → Verdict) (rs ss : List Reading)
    (f : StoreFacts hash said rs)
    (g : StoreFacts hash said ss) (alike : SeenAlike rs ss) (claims : active_claim rs ≡ active_claim ss)
    (none : find do_differ (all_ingredients rs ss) ≡ None) where
  -- the pairs of assertions are those of both manifests
  unredacted_are : (n m : ℕ) (w : Correspond rs ss n m)
      → unredacted_at rs ss n ≡ entry_pairs (unredacted_pairs rs n w.first w.second) w.first
  unredacted_are n m w =
      pairs_are (λ place r s. entry_pairs (unredacted_pairs rs place r s) r) rs ss n w.first w.second
      w.first_reached w.first_at
      (counterpart_is hash said rs ss f g alike n m w)

  -- the boxes of an entry that isn't redacted are there in both
  kept_boxes : (n m : ℕ) (w : Correspond rs ss n m) (e : Ref) (label : List ℕ)
      → Contains (entries_in w.first) e
      → entry_label w.first.manifest e ≡ Some label → is_redacted rs n label ≡ false
      → BothBoxes hash w.first w.second e label
  kept_boxes n m w e label listed is kept =
      both_boxes hash said rs ss f g alike n m w e label listed is kept
      (sym (redacted_alike hash said rs ss f g alike claims none n m w label) ∙ kept)

  -- the first difference among assertions is real evidence
  pub all_unredacted_real : (p : ListPair) → find do_differ (all_unredacted rs ss) ≡ Some p
      → IsShown hash said rs ss p
  all_unredacted_real p found =
      let x : FoundBelow do_differ (unredacted_at rs ss) (length rs) p =
      found_downward do_differ (unredacted_at rs ss) (length rs) p found in
      let reached =
      found_reached (λ place r s. entry_pairs (unredacted_pairs rs place r s) r) rs ss x.place p
      x.found in
      let w = forth hash said rs ss f g alike claims none x.place
      ((reached_decides rs f.tree.differ x.place).0 reached) in
      let y = found_entry (unredacted_pairs rs x.place w.1.first w.1.second) w.1.first p
      (sym (ap (find do_differ) (unredacted_are x.place w.0 w.1)) ∙ x.found) in
      by x.place w.0 w.1 y (is_redacted rs x.place y.label) refl y.found
    where
      by : (n m : ℕ) (w : Correspond rs ss n m)
          (y : FoundEntry (unredacted_pairs rs n w.first w.second) w.first p) (b : Bool)
          → is_redacted rs n y.label ≡ b
          → find do_differ (cond b [] (box_pair w.first w.second y.entry y.label ∷ [])) ≡ Some p
          → IsShown hash said rs ss p
      by n m w y true redacted e = absurd (cc (e))
      by n m w y false kept e =
          let own = found_only (box_pair w.first w.second y.entry y.label) p e in
          subst (IsShown hash said rs ss) own.0
          (box_shown hash said rs ss f g alike n m w y.entry y.label
          (kept_boxes n m w y.entry y.label y.lists y.is_label kept) own.1)

  -- ---- where these don't differ either

  module _ (same : find do_differ (all_unredacted rs ss) ≡ None) where
    -- the contents with the label of an entry that isn't redacted are equal
    pub kept_equal : (n m : ℕ) (w : Correspond rs ss n m) (e : Ref) (label : List ℕ)
        → Contains (entries_in w.first) e
        → entry_label w.first.manifest e ≡ Some label → is_redacted rs n label ≡ false
        → (box_pair w.first w.second e label).left ≡ (box_pair w.first w.second e label).right
    kept_equal n m w e label listed is kept =
        let at = none_downward do_differ (unredacted_at rs ss) (length rs) same n
        (slice_get_within rs n w.first w.first_at) in
        let own =
        none_entry (unredacted_pairs rs n w.first w.second) w.first
        (sym (ap (find do_differ) (unredacted_are n m w)) ∙ at) e label listed is in
        (none_pair (box_pair w.first w.second e label) []
        (sym (ap (λ b. find do_differ (cond b [] (box_pair w.first w.second e label ∷ []))) kept) ∙ own)).0

    -- manifests that correspond have one key
    one_key : (n m : ℕ) (w : Correspond rs ss n m) → key_at rs n w.first ≡ key_at ss m w.second
    one_key n m w =
        elim (bool_cases (is_active rs n)) [
          | inl last ↦
              ap (λ b. cond b [] (label_in w.first)) last
              ∙ sym (ap (λ b. cond b [] (label_in w.second)) (sym w.active ∙ last))
          | inr other ↦
              ap (λ b. cond b [] (label_in w.first)) other ∙ w.label other
              ∙ sym (ap (λ b. cond b [] (label_in w.second)) (sym w.active ∙ other))
        ]

    -- a claim of the first chain content is one of the second
    claim_forth : (key bytes : List ℕ) → GivesClaim rs key bytes → GivesClaim ss key bytes
    claim_forth key bytes h =
        let v = forth hash said rs ss f g alike claims none h.place
        ((reached_decides rs f.tree.differ h.place).0 h.has_key.reached) in
        let w = v.1 in
        let own : w.first ≡ h.manifest =
        one_value (slice_get rs h.place) w.first h.manifest w.first_at h.has_key.at_place in
        record {
          place = v.0;
          manifest = w.second;
          has_key = record {
            at_place = w.second_at;
            reached = w.second_reached;
            is = sym (one_key h.place v.0 w) ∙ ap (key_at rs h.place) own ∙ h.has_key.is;
          };
          is = sym w.claims ∙ ap claim_bytes_of own ∙ h.is;
        }

    -- a claim of the second chain content is one of the first
    claim_back : (key bytes : List ℕ) → GivesClaim ss key bytes → GivesClaim rs key bytes
    claim_back key bytes h =
        let v = back hash said rs ss f g alike claims none h.place
        ((reached_decides ss g.tree.differ h.place).0 h.has_key.reached) in
        let w = v.1 in
        let own : w.second ≡ h.manifest =
        one_value (slice_get ss h.place) w.second h.manifest w.second_at h.has_key.at_place in
        record {
          place = v.0;
          manifest = w.first;
          has_key = record {
            at_place = w.first_at;
            reached = w.first_reached;
            is = one_key v.0 h.place w ∙ ap (key_at ss h.place) own ∙ h.has_key.is;
          };
          is = w.claims ∙ ap claim_bytes_of own ∙ h.is;
        }

    -- a box of the first chain content is one of the second
    box_forth : (key label contents : List ℕ) → GivesBox rs key label contents
        → GivesBox ss key label contents
    box_forth key label contents h =
        let v = forth hash said rs ss f g alike claims none h.place
        ((reached_decides rs f.tree.differ h.place).0 h.has_key.reached) in
        let w = v.1 in
        let own : h.manifest ≡ w.first =
        one_value (slice_get rs h.place) h.manifest w.first h.has_key.at_place w.first_at in
        let listed : Contains (entries_in w.first) h.entry =
        subst (λ (r : Reading). Contains (entries_in r) h.entry) own h.lists in
        let is_label : entry_label w.first.manifest h.entry ≡ Some label =
        ap (λ (r : Reading). entry_label r.manifest h.entry) (sym own) ∙ h.is_label in
        let found : box_with w.first label ≡ Some h.box =
        ap (λ (r : Reading). box_with r label) (sym own) ∙ h.has_box in
        let b = kept_boxes h.place v.0 w h.entry label listed is_label h.unredacted in
        let equal = kept_equal h.place v.0 w h.entry label listed is_label h.unredacted in
        record {
          place = v.0;
          manifest = w.second;
          has_key = record {
            at_place = w.second_at;
            reached = w.second_reached;
            is = sym (one_key h.place v.0 w) ∙ ap (key_at rs h.place) (sym own) ∙ h.has_key.is;
          };
          entry = h.entry;
          lists = one_entry w.first w.second h.entry (one_claim hash said rs ss f g alike h.place v.0 w)
              listed;
          is_label = label_second hash said rs ss f g alike h.place v.0 w h.entry label listed is_label;
          unredacted =
              sym (redacted_alike hash said rs ss f g alike claims none h.place v.0 w label)
              ∙ h.unredacted;
          box = b.right;
          has_box = b.right_is;
          is = sym (contents_are w.second label b.right b.right_is) ∙ sym equal
              ∙ contents_are w.first label h.box found ∙ h.is;
        }

    -- a box of the second chain content is one of the first
    box_back : (key label contents : List ℕ) → GivesBox ss key label contents → GivesBox rs key label contents
    box_back key label contents h =
        let v = back hash said rs ss f g alike claims none h.place
        ((reached_decides ss g.tree.differ h.place).0 h.has_key.reached) in
        let w = v.1 in
        let own : h.manifest ≡ w.second =
        one_value (slice_get ss h.place) h.manifest w.second h.has_key.at_place w.second_at in
        let listed' : Contains (entries_in w.second) h.entry =
        subst (λ (r : Reading). Contains (entries_in r) h.entry) own h.lists in
        let is_label' : entry_label w.second.manifest h.entry ≡ Some label =
        ap (λ (r : Reading). entry_label r.manifest h.entry) (sym own) ∙ h.is_label in
        let listed =
        one_entry w.second w.first h.entry (sym (one_claim hash said rs ss f g alike v.0 h.place w))
        listed' in
        let is_label =
        label_first hash said rs ss f g alike v.0 h.place w h.entry label listed' is_label' in
        let kept : is_redacted rs v.0 label ≡ false =
        redacted_alike hash said rs ss f g alike claims none v.0 h.place w label ∙ h.unredacted in
        let found : box_with w.second label ≡ Some h.box =
        ap (λ (r : Reading). box_with r label) (sym own) ∙ h.has_box in
        let b = kept_boxes v.0 h.place w h.entry label listed is_label kept in
        let equal = kept_equal v.0 h.place w h.entry label listed is_label kept in
        record {
          place = v.0;
          manifest = w.first;
          has_key = record {
            at_place = w.first_at;
            reached = w.first_reached;
            is = one_key v.0 h.place w ∙ ap (key_at ss h.place) (sym own) ∙ h.has_key.is;
          };
          entry = h.entry;
          lists = listed;
          is_label = is_label;
          unredacted = kept;
          box = b.left;
          has_box = b.left_is;
          is = sym (contents_are w.first label b.left b.left_is) ∙ equal
              ∙ contents_are w.second label h.box found ∙ h.is;
        }

    -- chain contents are equal
    pub same_content : SameContent rs ss
    same_content = record {
      claims = λ key bytes. (claim_forth key bytes, claim_back key bytes);
      boxes = λ key label contents. (box_forth key label contents, box_back key label contents);
    }
