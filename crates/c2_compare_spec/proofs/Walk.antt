-- The walk over two accepted stores with one active claim: from the active manifests, step by step, to all
-- that are reached.
use Rattle.std.proofs.Common.{◌≡◌, inl, inr, ℕ, zero, suc, ◌+◌, ◌-◌, ◌<◌, true, false, List, [], ◌∷◌, Some, None, Contains, slice_get, length, refl, sym, ap, ◌∙◌, subst, arith}
use Rattle.std.specs.List.{find}
use Rattle.std.specs.Option.{option_and_then}
use Rattle.std.proofs.lemmas.Bool.Decides.{Decides-eqb}
use Rattle.std.proofs.lemmas.Option.{slice_get_within}
use Rattle.c2_base.specs.declared.values.Question.{Question}
use Rattle.c2_spec.specs.C2pa.Uri.{assertion}
use Rattle.c2_spec.specs.declared.digest.Alg.{Alg}
use Rattle.c2_spec.specs.declared.panel.Verdict.{Verdict}
use Rattle.c2_rules.proofs.ReachLemmas.{reached_decides, redacted_decides}
use Rattle.c2_rules.specs.Chains.{label_in, Reached, Reaches, is_active, is_redacted, IsRedacted}
use Rattle.c2_rules.specs.Chains.Reached.{active, below}
use Rattle.c2_rules.specs.Chains.Reaches.{child, through}
use Rattle.c2_rules.specs.Readings.{Reading, value_in, redactions_of}
use Rattle.c2_compare_spec.specs.ChainContent.{claim_bytes_of, active_claim}
use Rattle.c2_compare_spec.specs.Correspondence.{Correspond}
use Rattle.c2_compare_spec.specs.Differences.{ingredient_pairs, entry_pairs, ingredients_at, all_ingredients}
use Rattle.c2_compare_spec.specs.Evidence.{ListPair, do_differ}
use Rattle.c2_compare_spec.proofs.Facts.{SeenAlike, StoreFacts, IsShown}
use Rattle.c2_compare_spec.proofs.Links.{one_claim}
use Rattle.c2_compare_spec.proofs.Lists.{bool_cases, FoundBelow, found_downward, none_downward}
use Rattle.c2_compare_spec.proofs.Pairs.{found_reached}
use Rattle.c2_compare_spec.proofs.Steps.{ingredients_real, step, step_back}
use Rattle.c2_lemmas.proofs.Bools.{true_and_false}
use Rattle.c2_lemmas.proofs.Options.{one_value}

-- the last place of a list holds something
last_at : {X : Type 0} (xs : List X) (n : ℕ) → n + 1 ≡ length xs → (x : X) × (slice_get xs n ≡ Some x)
last_at [] n e = absurd (omega arith)
last_at (x ∷ xs) zero e = (x, refl)
last_at (x ∷ xs) (suc n) e = last_at xs n (omega arith)

-- the last of a list that isn't empty
last_there : {X : Type 0} (xs : List X) → 0 < length xs → (x : X) × (slice_get xs (length xs - 1) ≡ Some x)
last_there xs lt = last_at xs (length xs - 1) (omega arith)

-- a manifest that another reaches isn't the active one
reached_inactive : (rs : List Reading) (a n : ℕ) → Reaches rs a n → is_active rs n ≡ false
reached_inactive rs a n (child _ _ c) =
    let within = slice_get_within rs a c.user c.is_user in
    let lt = c.earlier in
    elim (bool_cases (is_active rs n)) [
      | inl last ↦ let at : n + 1 ≡ length rs =
          (Decides-eqb (n + 1) (length rs)).0 last in absurd (omega arith)
      | inr other ↦ other
    ]
reached_inactive rs a n (through _ c _ there rest) = reached_inactive rs c n rest

module _ (hash : Alg → List ℕ → List ℕ) (said : Question → Verdict) (rs ss : List Reading)
    (f : StoreFacts hash said rs)
    (g : StoreFacts hash said ss) (alike : SeenAlike rs ss) (claims : active_claim rs ≡ active_claim ss) where
  -- the active manifests correspond
  pub root : Correspond rs ss (length rs - 1) (length ss - 1)
  root =
      let a = last_there rs f.tree.some in
      let b = last_there ss g.tree.some in
      let some_first = f.tree.some in
      let some_second = g.tree.some in
      let end_first : length rs - 1 + 1 ≡ length rs = omega arith in
      let end_second : length ss - 1 + 1 ≡ length ss = omega arith in
      let active_first : is_active rs (length rs - 1) ≡ true =
      (Decides-eqb (length rs - 1 + 1) (length rs)).1 end_first in
      let active_second : is_active ss (length ss - 1) ≡ true =
      (Decides-eqb (length ss - 1 + 1) (length ss)).1 end_second in
      record {
        first = a.0;
        first_at = a.1;
        second = b.0;
        second_at = b.1;
        first_reached =
            (reached_decides rs f.tree.differ (length rs - 1)).1 (active (length rs - 1) end_first);
        second_reached =
            (reached_decides ss g.tree.differ (length ss - 1)).1 (active (length ss - 1) end_second);
        active = active_first ∙ sym active_second;
        label = λ other. true_and_false (is_active rs (length rs - 1)) active_first other;
        claims = sym (ap (option_and_then claim_bytes_of) a.1) ∙ claims
            ∙ ap (option_and_then claim_bytes_of) b.1;
      }

  -- the active manifest of the first corresponds to one of the second
  root_first : (n : ℕ) → n + 1 ≡ length rs → (m : ℕ) × Correspond rs ss n m
  root_first n e = let at : length rs - 1 ≡ n =
      omega arith in (length ss - 1, subst (λ k. Correspond rs ss k (length ss - 1)) at root)

  -- the active manifest of the second store corresponds to one of the first
  root_second : (m : ℕ) → m + 1 ≡ length ss → (n : ℕ) × Correspond rs ss n m
  root_second m e = let at : length ss - 1 ≡ m =
      omega arith in (length rs - 1, subst (λ k. Correspond rs ss (length rs - 1) k) at root)

  -- where no pairs of later manifests differ, a reached manifest corresponds to one
  has_counterpart : (n : ℕ) → Reached rs n
      → ((k : ℕ) → n < k → k < length rs → find do_differ (ingredients_at rs ss k) ≡ None)
      → (m : ℕ) × Correspond rs ss n m
  has_counterpart n (active _ e) none = root_first n e
  has_counterpart n (below k _ up c) none =
      let later = c.earlier in
      let within = slice_get_within rs k c.user c.is_user in
      let w = has_counterpart k up (λ i above inside. none i (omega arith) inside) in
      let r = step hash said rs ss f g alike k w.0 w.1 (none k later within) n c in
      (r.0, r.1)

  -- the first difference among the pairs that lead on is real evidence
  pub all_ingredients_real : (p : ListPair) → find do_differ (all_ingredients rs ss) ≡ Some p
      → IsShown hash said rs ss p
  all_ingredients_real p found =
      let x : FoundBelow do_differ (ingredients_at rs ss) (length rs) p =
      found_downward do_differ (ingredients_at rs ss) (length rs) p found in
      let reached =
      found_reached (λ place r s. entry_pairs (ingredient_pairs rs ss r s) r) rs ss x.place p x.found in
      let w = has_counterpart x.place ((reached_decides rs f.tree.differ x.place).0 reached) x.none_later in
      ingredients_real hash said rs ss f g alike x.place w.0 w.1 p x.found

-- ---- where none of these pairs differs

module _ (hash : Alg → List ℕ → List ℕ) (said : Question → Verdict) (rs ss : List Reading)
    (f : StoreFacts hash said rs)
    (g : StoreFacts hash said ss) (alike : SeenAlike rs ss) (claims : active_claim rs ≡ active_claim ss)
    (none : find do_differ (all_ingredients rs ss) ≡ None) where
  -- none differs at a manifest that corresponds to one
  none_at : (n m : ℕ) → Correspond rs ss n m → find do_differ (ingredients_at rs ss n) ≡ None
  none_at n m w =
      none_downward do_differ (ingredients_at rs ss) (length rs) none n (slice_get_within rs n w.first w.first_at)

  -- each reached manifest of the first store corresponds to one
  pub forth : (n : ℕ) → Reached rs n → (m : ℕ) × Correspond rs ss n m
  forth n (active _ e) = root_first hash said rs ss f g alike claims n e
  forth n (below k _ up c) =
      let w = forth k up in
      let r = step hash said rs ss f g alike k w.0 w.1 (none_at k w.0 w.1) n c in
      (r.0, r.1)

  -- each reached manifest of the second store corresponds to one of the first
  pub back : (m : ℕ) → Reached ss m → (n : ℕ) × Correspond rs ss n m
  back m (active _ e) = root_second hash said rs ss f g alike claims m e
  back m (below k _ up c) =
      let w = back k up in
      let r = step_back hash said rs ss f g alike w.0 k w.1 (none_at w.0 k w.1) m c in
      (r.0, r.1)

  -- what a manifest reaches corresponds to what its counterpart reaches
  reaches_forth : (a n : ℕ) → Reaches rs a n → (b : ℕ) → Correspond rs ss a b
      → (m : ℕ) × Correspond rs ss n m × Reaches ss b m
  reaches_forth a n (child _ _ c) b w =
      let r = step hash said rs ss f g alike a b w (none_at a b w) n c in
      (r.0, r.1, child b r.0 r.2)
  reaches_forth a n (through _ c _ there rest) b w =
      let r = step hash said rs ss f g alike a b w (none_at a b w) c there in
      let q = reaches_forth c n rest r.0 r.1 in
      (q.0, q.1, through b r.0 q.0 r.2 q.2)

  -- what the counterpart of a manifest reaches corresponds to what the manifest reaches
  reaches_back : (b m : ℕ) → Reaches ss b m → (a : ℕ) → Correspond rs ss a b
      → (n : ℕ) × Correspond rs ss n m × Reaches rs a n
  reaches_back b m (child _ _ c) a w =
      let r = step_back hash said rs ss f g alike a b w (none_at a b w) m c in
      (r.0, r.1, child a r.0 r.2)
  reaches_back b m (through _ c _ there rest) a w =
      let r = step_back hash said rs ss f g alike a b w (none_at a b w) c there in
      let q = reaches_back c m rest r.0 r.1 in
      (q.0, q.1, through a r.0 q.0 r.2 q.2)

  -- a manifest corresponds to one alone
  pub one_first : (n k m : ℕ) → Correspond rs ss n m → Correspond rs ss k m → n ≡ k
  one_first n k m w v =
      elim (bool_cases (is_active ss m)) [
        | inl last ↦
            let a : n + 1 ≡ length rs = (Decides-eqb (n + 1) (length rs)).0 (w.active ∙ last) in
            let b : k + 1 ≡ length rs = (Decides-eqb (k + 1) (length rs)).0 (v.active ∙ last) in
            omega arith
        | inr other ↦
            let same : w.second ≡ v.second =
            one_value (slice_get ss m) w.second v.second w.second_at v.second_at in
            f.tree.differ n k w.first v.first w.first_at v.first_at
            (w.label (w.active ∙ other) ∙ ap label_in same ∙ sym (v.label (v.active ∙ other)))
      ]

  -- one manifest of the second store at most corresponds to one of the first
  pub one_second : (n m k : ℕ) → Correspond rs ss n m → Correspond rs ss n k → m ≡ k
  one_second n m k w v =
      elim (bool_cases (is_active rs n)) [
        | inl last ↦
            let a : m + 1 ≡ length ss = (Decides-eqb (m + 1) (length ss)).0 (sym w.active ∙ last) in
            let b : k + 1 ≡ length ss = (Decides-eqb (k + 1) (length ss)).0 (sym v.active ∙ last) in
            omega arith
        | inr other ↦
            let same : w.first ≡ v.first = one_value (slice_get rs n) w.first v.first w.first_at v.first_at in
            g.tree.differ m k w.second v.second w.second_at v.second_at
            (sym (w.label other) ∙ ap label_in same ∙ v.label other)
      ]

  -- ---- redactions

  -- what is redacted in a manifest is redacted in its counterpart
  redacted_forth : (n m : ℕ) → Correspond rs ss n m → (label : List ℕ) → IsRedacted rs n label
      → IsRedacted ss m label
  redacted_forth n m w label r =
      let v = forth r.place r.reached in
      let x = reaches_forth r.place n r.reaches v.0 v.1 in
      let place : x.0 ≡ m = one_second n x.0 m x.1 w in
      let target : r.target ≡ w.first = one_value (slice_get rs n) r.target w.first r.at_target w.first_at in
      let name : label_in r.target ≡ label_in w.second =
      ap label_in target ∙ w.label (reached_inactive rs r.place n r.reaches) in
      let who : r.redactor ≡ v.1.first =
      one_value (slice_get rs r.place) r.redactor v.1.first r.at_place v.1.first_at in
      let claim =
      ap (λ (z : Reading). z.claim) who ∙ one_claim hash said rs ss f g alike r.place v.0 v.1 in
      record {
        place = v.0;
        reached = (reached_decides ss g.tree.differ v.0).0 v.1.second_reached;
        reaches = subst (Reaches ss v.0) place x.2;
        redactor = v.1.second;
        at_place = v.1.second_at;
        text = r.text;
        lists = subst (λ c. Contains (redactions_of (value_in c)) r.text) claim r.lists;
        target = w.second;
        at_target = w.second_at;
        names = r.names ∙ ap (λ l. Some (record { manifest = Some l; target = assertion label })) name;
      }

  -- what is redacted in the counterpart of a manifest is redacted in the manifest
  redacted_back : (n m : ℕ) → Correspond rs ss n m → (label : List ℕ) → IsRedacted ss m label
      → IsRedacted rs n label
  redacted_back n m w label r =
      let v = back r.place r.reached in
      let x = reaches_back r.place m r.reaches v.0 v.1 in
      let place : x.0 ≡ n = one_first x.0 n m x.1 w in
      let target : r.target ≡ w.second = one_value (slice_get ss m) r.target w.second r.at_target w.second_at in
      let inactive : is_active rs n ≡ false = w.active ∙ reached_inactive ss r.place m r.reaches in
      let name : label_in r.target ≡ label_in w.first = ap label_in target ∙ sym (w.label inactive) in
      let who : r.redactor ≡ v.1.second =
      one_value (slice_get ss r.place) r.redactor v.1.second r.at_place v.1.second_at in
      let claim =
      ap (λ (z : Reading). z.claim) who ∙ sym (one_claim hash said rs ss f g alike v.0 r.place v.1) in
      record {
        place = v.0;
        reached = (reached_decides rs f.tree.differ v.0).0 v.1.first_reached;
        reaches = subst (Reaches rs v.0) place x.2;
        redactor = v.1.first;
        at_place = v.1.first_at;
        text = r.text;
        lists = subst (λ c. Contains (redactions_of (value_in c)) r.text) claim r.lists;
        target = w.first;
        at_target = w.first_at;
        names = r.names ∙ ap (λ l. Some (record { manifest = Some l; target = assertion label })) name;
      }

  -- the labels that are redacted in a manifest are those that are redacted in its counterpart
  pub redacted_alike : (n m : ℕ) → Correspond rs ss n m → (label : List ℕ)
      → is_redacted rs n label ≡ is_redacted ss m label
  redacted_alike n m w label =
      elim (bool_cases (is_redacted rs n label)) [
        | inl first ↦
            first
            ∙ sym ((redacted_decides ss g.tree.differ m label).1
            (redacted_forth n m w label ((redacted_decides rs f.tree.differ n label).0 first)))
        | inr neither ↦ elim (bool_cases (is_redacted ss m label)) [
          | inl second ↦
              let first =
              (redacted_decides rs f.tree.differ n label).1
              (redacted_back n m w label ((redacted_decides ss g.tree.differ m label).0 second)) in
              true_and_false (is_redacted rs n label) first neither
          | inr other ↦ neither ∙ sym other
        ]
      ]
