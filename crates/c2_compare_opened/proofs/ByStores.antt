-- What two files come to, by their stores.
use Rattle.std.proofs.Common.{◌≡◌, inl, inr, ℕ, List, [], Option, Some, Ok, Err, refl, ◌∙◌}
use Rattle.c2_base.specs.declared.values.Question.{Question}
use Rattle.c2_spec.specs.declared.digest.Alg.{Alg}
use Rattle.c2_spec.specs.declared.panel.Verdict.{Verdict}
use Rattle.c2_rules.specs.CheckList.{StoreReading}
use Rattle.c2_rules.specs.declared.answer.Summary.{Summary}
use Rattle.c2_compare_spec.specs.Accepted.{HaveOneClaim, IsAccepted, summary_in}
use Rattle.c2_compare_spec.specs.Comparison.{IsComparison, evidence_kind}
use Rattle.c2_compare_spec.specs.Differences.{first_difference}
use Rattle.c2_compare_spec.specs.Evidence.{ListPair, IsReal}
use Rattle.c2_compare_spec.specs.EvidenceText.{evidence_text}
use Rattle.c2_compare_spec.specs.declared.compared.Compared.TheVariants as compared
use Rattle.c2_compare_spec.specs.declared.compared.EvidenceKind.{EvidenceKind}
use Rattle.c2_compare_evidence.specs.declared.error.CompareError.{CompareError}
use Rattle.c2_compare_opened.specs.Comparing.{IsComparedAs}
use Rattle.c2_compare_opened.specs.Settled.{HaveFirst, IsSettled, compared_of}
use Rattle.c2_compare_opened.specs.declared.settling.Settled.{Settled}
use Rattle.c2_compare_opened.specs.declared.settling.Settled.TheVariants.{DifferentClaims, Evidence, Same}
use Rattle.c2_base.proofs.Written.{then_nothing}

module _ (hash : Alg → List ℕ → List ℕ) (said : Question → Verdict) (first second : List ℕ) where
  -- the first difference of accepted files with one claim is real
  abbrev pub RealLaw : Type 0
  RealLaw =
      (s t : StoreReading) → HaveOneClaim hash said first second s t → (p : ListPair) → first_difference s t ≡ Some p
      → IsReal hash said p

  -- ---- by two stores

  module _ (s t : StoreReading) (h : IsAccepted hash said first s) (k : IsAccepted hash said second t) where
    -- evidence is what they come to
    evidence_is : RealLaw → (p : ListPair) → HaveFirst s t p → (kind : EvidenceKind) → kind ≡ evidence_kind p.bound_by
        → IsComparison hash said first second (compared.Evidence kind) (evidence_text p)
    evidence_is law p f kind is =
        let one : HaveOneClaim hash said first second s t =
        record { first_accepted = h; second_accepted = k; claims = f.claims } in
        record {
          store = s;
          other = t;
          one_claim = one;
          differ = f.differ;
          pair = p;
          is_first = f.is_first;
          is_real = law s t one p f.is_first;
          is_kind = is;
          is_text = refl;
        }

    -- the active claims differ
    different : (old new : Option (List ℕ)) → IsSettled s t old new (Ok DifferentClaims)
        → IsComparedAs hash said first second old new (Ok compared.DifferentClaims)
    different old new d = (
      [],
      (record { store = s; other = t; first_accepted = h; second_accepted = k; differ = d.0 }, refl),
      d.1 ∙ then_nothing old,
    )

    -- there is evidence
    evidence : RealLaw → (kind : EvidenceKind) (old new : Option (List ℕ)) → IsSettled s t old new (Ok (Evidence kind))
        → IsComparedAs hash said first second old new (Ok (compared.Evidence kind))
    evidence law kind old new d = (evidence_text d.0, evidence_is law d.0 d.1 kind d.2, d.3)

    -- all is equal
    same : (summary : Summary) (old new : Option (List ℕ)) → summary ≡ summary_in first s h.opened
        → IsSettled s t old new (Ok Same) → IsComparedAs hash said first second old new (Ok (compared.Same summary))
    same summary old new is d = (
      [],
      (
        record {
          store = s;
          other = t;
          one_claim = record { first_accepted = h; second_accepted = k; claims = d.0 };
          same = d.1;
          is_summary = is;
        },
        refl,
      ),
      d.2 ∙ then_nothing old,
    )

    -- whatever it is
    pub settled_as : RealLaw → (summary : Summary) (old new : Option (List ℕ)) → summary ≡ summary_in first s h.opened
        → (x : Settled)
        → IsSettled s t old new (Ok x) → IsComparedAs hash said first second old new (Ok (compared_of x summary))
    settled_as law summary old new is DifferentClaims d = different old new d
    settled_as law summary old new is (Evidence kind) d = evidence law kind old new d
    settled_as law summary old new is Same d = same summary old new is d

    -- the call failed
    pub failed : RealLaw → (e : CompareError) (old new : Option (List ℕ)) → IsSettled s t old new (Err e)
        → IsComparedAs hash said first second old new (Err e)
    failed law e old new (inl unchanged) = inl unchanged
    failed law e old new (inr w) =
        inr
        (compared.Evidence (evidence_kind w.0.bound_by), evidence_text w.0, evidence_is law w.0 w.1 (evidence_kind w.0.bound_by) refl, w.2)
