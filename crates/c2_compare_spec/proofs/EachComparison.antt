-- Two files whose checks answer come to an answer when they are compared.
use Rattle.std.proofs.Common.{◌≡◌, ◌≢◌, ◌⊎◌, inl, inr, ℕ, Bool, true, false, bytes_eq, List, [], Option, Some, None, refl, ap, ◌++◌}
use Rattle.std.proofs.lemmas.Bool.Decides.{not_from_Decides}
use Rattle.std.proofs.lemmas.Option.{same_Some}
use Rattle.std.proofs.lemmas.Slice.Eq.{bytes_eq-Decides}
use Rattle.c2_base.specs.declared.values.Question.{Question}
use Rattle.c2_spec.specs.declared.digest.Alg.{Alg}
use Rattle.c2_spec.specs.declared.panel.Verdict.{Verdict}
use Rattle.c2_rules.specs.CheckList.{StoreReading}
use Rattle.c2_rules.specs.Validated.{IsAnswer, CheckAsks}
use Rattle.c2_rules.specs.declared.answer.Answer.{Answer}
use Rattle.c2_rules.specs.declared.answer.Answer.TheVariants as answer
use Rattle.c2_compare_spec.specs.Accepted.{IsAccepted, HaveOneClaim, AreSame, summary_in}
use Rattle.c2_compare_spec.specs.ChainContent.{SameContent, active_claim, covered_text}
use Rattle.c2_compare_spec.specs.Comparison.{is_valid, evidence_kind, IsComparison, SecondAsks, CompareAsks}
use Rattle.c2_compare_spec.specs.Deciding.{has_same_content}
use Rattle.c2_compare_spec.specs.EvidenceText.{evidence_text}
use Rattle.c2_compare_spec.specs.declared.compared.Compared.{Compared}
use Rattle.c2_compare_spec.specs.declared.compared.Compared.TheVariants.{NotAccepted, DifferentClaims, Evidence, Same}
use Rattle.c2_compare_spec.specs.declared.compared.Side.TheVariants.{First, Second}
use Rattle.c2_compare_spec.proofs.Answers.{valid_accepted}
use Rattle.c2_compare_spec.proofs.Decided.{test_decides}
use Rattle.c2_compare_spec.proofs.Files.{facts, difference_is_found}

-- ---- equal or not

-- two values are equal or differ
abbrev EqualOrNot : {X : Type 0} → X → X → Type 0
EqualOrNot x y = (x ≡ y) ⊎ (x ≢ y)

-- two lists are
lists_equal : (a b : List ℕ) → EqualOrNot a b
lists_equal a b = by (bytes_eq a b) refl
  where
    by : (t : Bool) → bytes_eq a b ≡ t → EqualOrNot a b
    by true e = inl ((bytes_eq-Decides a b).0 e)
    by false e = inr (not_from_Decides (bytes_eq a b) (bytes_eq-Decides a b) e)

-- two lists that may be missing are
options_equal : (a b : Option (List ℕ)) → EqualOrNot a b
options_equal None None = inl refl
options_equal None (Some b) = inr (λ e. cc (e))
options_equal (Some a) None = inr (λ e. cc (e))
options_equal (Some a) (Some b) =
    elim (lists_equal a b) [
      | inl same ↦ inl (ap Some same)
      | inr other ↦ inr (λ e. other (same_Some a b e))
    ]

module _ (hash : Alg → List ℕ → List ℕ) (said : Question → Verdict)
    (first second : List ℕ) where
  -- stores of accepted files are the same or aren't
  same_or_not : (s t : StoreReading) → IsAccepted hash said first s → IsAccepted hash said second t
      → AreSame s t ⊎ (AreSame s t → ⊥)
  same_or_not s t h k =
      by (has_same_content s.readings t.readings) refl (lists_equal (covered_text s) (covered_text t))
    where
      decides : ((has_same_content s.readings t.readings ≡ true)
          → SameContent s.readings t.readings) × (SameContent s.readings t.readings
          → has_same_content s.readings t.readings ≡ true)
      decides =
          test_decides hash said s.readings t.readings (facts hash said first s h).store
          (facts hash said second t k).store

      by : (b : Bool) → has_same_content s.readings t.readings ≡ b
          → EqualOrNot (covered_text s) (covered_text t) → AreSame s t ⊎ (AreSame s t → ⊥)
      by true e (inl covered) = inl (record { content = decides.0 e; covered = covered })
      by b e (inr other) = inr (λ same. other same.covered)
      by false e o =
          inr (λ same. not_from_Decides (has_same_content s.readings t.readings) decides e same.content)

  -- what two files come to
  abbrev Compares : Type 0
  Compares = (what : Compared) × (text : List ℕ) × IsComparison hash said first second what text

  -- two accepted files
  of_accepted : (s t : StoreReading) → IsAccepted hash said first s → IsAccepted hash said second t → Compares
  of_accepted s t h k =
      elim (options_equal (active_claim s.readings) (active_claim t.readings)) [
        | inr differ ↦ (
          DifferentClaims,
          [],
          (record { store = s; other = t; first_accepted = h; second_accepted = k; differ = differ }, refl),
        )
        | inl claims ↦ of_one_claim s t (record { first_accepted = h; second_accepted = k; claims = claims })
            (same_or_not s t h k)
      ]
    where
      of_one_claim : (s t : StoreReading) (o : HaveOneClaim hash said first second s t)
          → AreSame s t ⊎ (AreSame s t → ⊥) → Compares
      of_one_claim s t o (inl same) = (
        Same (summary_in first s o.first_accepted.opened),
        [],
        (record { store = s; other = t; one_claim = o; same = same; is_summary = refl }, refl),
      )
      of_one_claim s t o (inr differ) =
          let d = difference_is_found hash said first second s t o differ in (
            Evidence (evidence_kind d.0.bound_by),
            evidence_text d.0,
            record {
              store = s;
              other = t;
              one_claim = o;
              differ = differ;
              pair = d.0;
              is_first =
                  d.1;
              is_real = d.2;
              is_kind = refl;
              is_text = refl;
            },
          )

  -- a first file that isn't accepted
  refused_first : (a : Answer) → is_valid a ≡ false → IsAnswer hash said first a → Compares
  refused_first a invalid p = (NotAccepted First a, [], (record { is_answer = p; invalid = invalid }, refl))

  -- a second file that isn't
  refused_second : (s : StoreReading) → IsAccepted hash said first s → (b : Answer) → is_valid b ≡ false
      → IsAnswer hash said second b → Compares
  refused_second s h b invalid q =
      (NotAccepted Second b, [], (record { store = s; accepted = h; is_answer = q; invalid = invalid }, refl))

  -- by the answer of the second
  by_second : (s : StoreReading) → IsAccepted hash said first s → (b : Answer) → IsAnswer hash said second b
      → Compares
  by_second s h (answer.Valid summary) q = let k =
      valid_accepted hash said second summary q in of_accepted s k.0 h k.1
  by_second s h (answer.Failing failing) q = refused_second s h (answer.Failing failing) refl q
  by_second s h (answer.Refused reason number) q = refused_second s h (answer.Refused reason number) refl q
  by_second s h answer.NoStore q = refused_second s h answer.NoStore refl q

  -- two files whose checks answer come to an answer
  pub each_comparison : (a b : Answer) → IsAnswer hash said first a → IsAnswer hash said second b
      → (what : Compared) × (text : List ℕ) × IsComparison hash said first second what text
  each_comparison (answer.Valid summary) b p q = let h =
      valid_accepted hash said first summary p in by_second h.0 h.1 b q
  each_comparison (answer.Failing failing) b p q = refused_first (answer.Failing failing) refl p
  each_comparison (answer.Refused reason number) b p q = refused_first (answer.Refused reason number) refl p
  each_comparison answer.NoStore b p q = refused_first answer.NoStore refl p

-- two files whose checks answer and ask are asked a list of questions
pub each_asked : (hash : Alg → List ℕ → List ℕ) (said : Question → Verdict) (first second : List ℕ)
    (a : Answer)
    (ps qs : List Question) → IsAnswer hash said first a → CheckAsks hash said first ps
    → CheckAsks hash said second qs → (all : List Question) × CompareAsks hash said first second all
each_asked hash said first second a ps qs is asks others = by a is
  where
    with_second : (b : Answer) → IsAnswer hash said first b → (rest : List Question)
        → SecondAsks hash said second b rest → (all : List Question) × CompareAsks hash said first second all
    with_second b h rest k = (
      ps ++ rest,
      record {
        answer = b;
        is_answer = h;
        of_first = ps;
        first_asks = asks;
        of_second =
            rest;
        second_asks = k;
        are = refl;
      },
    )

    by : (b : Answer) → IsAnswer hash said first b
        → (all : List Question) × CompareAsks hash said first second all
    by (answer.Valid summary) h = with_second (answer.Valid summary) h qs others
    by (answer.Failing failing) h = with_second (answer.Failing failing) h [] refl
    by (answer.Refused reason number) h = with_second (answer.Refused reason number) h [] refl
    by answer.NoStore h = with_second answer.NoStore h [] refl
