-- What two accepted files come to, step by step.
use Rattle.std.proofs.Common.{◌≡◌, ◌↔◌, inr, ℕ, Bool, true, false, not, cond, bytes_eq, List, [], ◌∷◌, ◌++◌, codes, Option, Some, None, Result, Ok, Err, IfOk, refl, sym, ap, ◌∙◌, subst}
use Rattle.std.specs.List.{find}
use Rattle.std.specs.Option.{option_map, option_or}
use Rattle.std.proofs.lemmas.Bool.Decides.{not_from_Decides}
use Rattle.std.proofs.lemmas.List.{append_assoc, append-nil}
use Rattle.std.proofs.lemmas.List.Folds.{find-append}
use Rattle.std.proofs.lemmas.Slice.Eq.{bytes_eq-Decides}
use Rattle.c2_base.specs.Sink.{Appends, HasWrittenPrefix}
use Rattle.c2_base.specs.declared.values.Question.{Question}
use Rattle.c2_cover.specs.Covers.{IsSameText, text_of}
use Rattle.c2_rules.specs.CheckList.{StoreReading}
use Rattle.c2_rules.specs.Readings.{Reading}
use Rattle.c2_rules.specs.declared.answer.Summary.{Summary}
use Rattle.c2_spec.specs.declared.digest.Alg.{Alg}
use Rattle.c2_spec.specs.declared.panel.Verdict.{Verdict}
use Rattle.c2_compare_spec.specs.Accepted.{AreSame, HaveOneClaim}
use Rattle.c2_compare_spec.specs.ChainContent.{SameContent, active_claim, covered_text}
use Rattle.c2_compare_spec.specs.Comparison.{evidence_kind}
use Rattle.c2_compare_spec.specs.Deciding.{has_same_content}
use Rattle.c2_compare_spec.specs.Differences.{all_ingredients, all_unredacted, covered_alg, covered_pair, first_difference}
use Rattle.c2_compare_spec.specs.Evidence.{BoundBy, by_digest, by_signature, ListPair, do_differ}
use Rattle.c2_compare_spec.specs.EvidenceText.{evidence_text, hex_line, printed, text_line}
use Rattle.c2_compare_spec.specs.declared.compared.EvidenceKind.{EvidenceKind}
use Rattle.c2_hard_binding.specs.declared.bound.BoundText.{BoundText}
use Rattle.c2_compare_evidence.specs.Covered.{covered_evidence, covered_head}
use Rattle.c2_compare_evidence.specs.Differing.{IsFirstOf, binder_view, view}
use Rattle.c2_compare_opened.specs.Settled.{HaveFirst, IsSettled, shown_kind}
use Rattle.c2_compare_opened.specs.Sides.{IsCompareSide}
use Rattle.c2_compare_evidence.specs.Shown.{ShownPair, shown, shown_by}
use Rattle.c2_compare_evidence.specs.declared.error.CompareError.{CompareError}
use Rattle.c2_compare_evidence.specs.declared.lists.Difference.{Difference}
use Rattle.c2_compare_opened.specs.declared.settling.Settled.TheVariants.{DifferentClaims, Evidence, Same}

-- ---- a pair that is printed

-- what is printed is so of a pair
shown_some : (o : Option ListPair) (v : ShownPair) → Some v ≡ option_map shown o
    → (p : ListPair) × (o ≡ Some p) × (v ≡ shown p)
shown_some None v e = absurd (cc (e))
shown_some (Some p) v e = (p, refl, cc (e))

-- nothing is printed of none
shown_none : (o : Option ListPair) → None ≡ option_map shown o → o ≡ None
shown_none None e = refl
shown_none (Some p) e = absurd (cc (e))

-- the kind of evidence is seen in what is printed
kind_shown : (b : BoundBy) → shown_kind (shown_by b) ≡ evidence_kind b
kind_shown (by_digest name) = refl
kind_shown (by_signature box) = refl

-- ---- the first difference of two stores

-- the pairs of two chain contents
abbrev chain_pairs : List Reading → List Reading → List ListPair
chain_pairs rs ss = all_ingredients rs ss ++ all_unredacted rs ss

-- the first difference of both, by that of the chain contents
by_chain : (s t : StoreReading)
    → first_difference s t ≡ option_or (find do_differ (chain_pairs s.readings t.readings)) (find do_differ (covered_pair s t ∷ []))
by_chain s t =
    ap (find do_differ)
    (sym (append_assoc (all_ingredients s.readings t.readings) (all_unredacted s.readings t.readings) (covered_pair s t ∷ [])))
    ∙ find-append do_differ (chain_pairs s.readings t.readings) (covered_pair s t ∷ [])

-- the chain contents differ
chain_first : (s t : StoreReading) (p : ListPair) → find do_differ (chain_pairs s.readings t.readings) ≡ Some p
    → first_difference s t ≡ Some p
chain_first s t p e = by_chain s t ∙ ap (λ o. option_or o (find do_differ (covered_pair s t ∷ []))) e

-- where the chain contents don't differ, the first difference is one of the covered texts
chain_none : (s t : StoreReading) → find do_differ (chain_pairs s.readings t.readings) ≡ None
    → first_difference s t ≡ find do_differ (covered_pair s t ∷ [])
chain_none s t e = by_chain s t ∙ ap (λ o. option_or o (find do_differ (covered_pair s t ∷ []))) e

-- a pair of covered texts that are equal, and of others
covered_same : (s t : StoreReading) → bytes_eq (covered_text s) (covered_text t) ≡ true
    → find do_differ (covered_pair s t ∷ []) ≡ None
covered_same s t e = ap (λ b. cond (not b) (Some (covered_pair s t)) None) e

-- a pair of covered texts that differ is the difference
covered_other : (s t : StoreReading) → bytes_eq (covered_text s) (covered_text t) ≡ false
    → find do_differ (covered_pair s t ∷ []) ≡ Some (covered_pair s t)
covered_other s t e = ap (λ b. cond (not b) (Some (covered_pair s t)) None) e

-- the text of evidence on covered texts
covered_lines : (s t : StoreReading)
    → evidence_text (covered_pair s t) ≡ covered_evidence (covered_alg s) (covered_text s) (covered_text t)
unfolding covered_head
covered_lines s t =
    let a = covered_alg s in
    let front : List ℕ = codes "evidence digest " ++ a in
    let head : text_line (codes "evidence digest " ++ a ++ codes " " ++ printed (codes "covered")) ≡ codes "evidence digest " ++ a ++ codes " covered\n" =
    append_assoc (front ++ codes " ") (printed (codes "covered")) (codes "\n")
    ∙ append_assoc front (codes " ") (codes "covered\n") in
    ap (λ x. x ++ (hex_line (covered_text s) ++ (hex_line (covered_text t) ++ []))) head
    ∙ ap (λ x. (codes "evidence digest " ++ a ++ codes " covered\n") ++ (hex_line (covered_text s) ++ x))
    (append-nil (hex_line (covered_text t)))

-- ---- one claim

-- active claims of stores that were read so
claims_of : (s t : StoreReading) (rs ss : List Reading) → s.readings ≡ rs → t.readings ≡ ss
    → active_claim rs ≡ active_claim ss
    → active_claim s.readings ≡ active_claim t.readings
claims_of s t rs ss e f claims = ap active_claim e ∙ claims ∙ sym (ap active_claim f)

-- the pairs of stores that were read so
pairs_of : (s t : StoreReading) (rs ss : List Reading) → s.readings ≡ rs → t.readings ≡ ss
    → find do_differ (chain_pairs s.readings t.readings) ≡ find do_differ (chain_pairs rs ss)
pairs_of s t rs ss e f =
    ap (λ x. find do_differ (chain_pairs x t.readings)) e ∙ ap (λ x. find do_differ (chain_pairs rs x)) f

module _ {hash : Alg → List ℕ → List ℕ} {said : Question → Verdict} {a b : List ℕ} {rs ss : List Reading} {text other : BoundText} {summary summary' : Summary}
    (h : IsCompareSide hash said a rs text summary) (k : IsCompareSide hash said b ss other summary') where
  -- a test of the covered texts
  covered_test : (same : Bool) → same ≡ bytes_eq (text_of text.cover a) (text_of other.cover b)
      → same ≡ bytes_eq (covered_text h.store) (covered_text k.store)
  covered_test same e =
      e ∙ ap (λ x. bytes_eq x (text_of other.cover b)) h.is_text ∙ ap (bytes_eq (covered_text h.store)) k.is_text

  -- a test of the chain contents
  content_test : (same : Bool) → same ≡ has_same_content rs ss
      → same ≡ has_same_content h.store.readings k.store.readings
  content_test same e =
      e ∙ sym (ap (λ x. has_same_content x ss) h.readings) ∙ sym (ap (has_same_content h.store.readings) k.readings)

  -- whether both are equal
  abbrev pub Says : Bool → Type 0
  Says same = (same ≡ true → AreSame h.store k.store) × (same ≡ false → AreSame h.store k.store → ⊥)

  -- other chain contents
  pub no_content : (has_same_content h.store.readings k.store.readings ≡ true) ↔ SameContent h.store.readings k.store.readings
      → (same : Bool) → same ≡ has_same_content rs ss → same ≡ false → Says false
  no_content law same e no' = (
    λ bad. absurd (cc (bad)),
    λ is equal. not_from_Decides (has_same_content h.store.readings k.store.readings) law (sym (content_test same e) ∙ no') equal.content,
  )

  -- equal chain contents: the covered texts decide
  pub with_content : (has_same_content h.store.readings k.store.readings ≡ true) ↔ SameContent h.store.readings k.store.readings
      → (same : Bool) → same ≡ has_same_content rs ss → same ≡ true
      → (texts : Bool) → texts ≡ bytes_eq (text_of text.cover a) (text_of other.cover b) → Says texts
  with_content law same e yes' texts f = (
    λ is. record {
      content = law.0 (sym (content_test same e) ∙ yes');
      covered = (bytes_eq-Decides (covered_text h.store) (covered_text k.store)).0 (sym (covered_test texts f) ∙ is);
    },
    λ is equal. not_from_Decides (bytes_eq (covered_text h.store) (covered_text k.store)) (bytes_eq-Decides (covered_text h.store) (covered_text k.store))
        (sym (covered_test texts f) ∙ is) equal.covered,
  )

  -- the first difference of the chain contents is that of both
  first_of_chain : (found : Difference) → active_claim rs ≡ active_claim ss → IsFirstOf (chain_pairs rs ss) (Some found)
      → (AreSame h.store k.store → ⊥)
      → (p : ListPair) × HaveFirst h.store k.store p × (view found ≡ shown p)
  first_of_chain found claims first differ =
      let p = shown_some (find do_differ (chain_pairs rs ss)) (view found) first in (
        p.0,
        record {
          claims = claims_of h.store k.store rs ss h.readings k.readings claims;
          differ = differ;
          is_first = chain_first h.store k.store p.0 (pairs_of h.store k.store rs ss h.readings k.readings ∙ p.1);
        },
        p.2,
      )

  -- evidence on the chain contents was written
  pub chain_written : (found : Difference) (kind : EvidenceKind) (old new : Option (List ℕ))
      → active_claim rs ≡ active_claim ss
      → IsFirstOf (chain_pairs rs ss) (Some found) → (AreSame h.store k.store → ⊥)
      → kind ≡ shown_kind (binder_view found.bound_by)
      → ((p : ListPair) → view found ≡ shown p → Appends old new (evidence_text p))
      → IsSettled h.store k.store old new (Ok (Evidence kind))
  chain_written found kind old new claims first differ is wrote =
      let f = first_of_chain found claims first differ in
      (f.0, f.1, is ∙ ap (λ (v : ShownPair). shown_kind v.bound_by) f.2 ∙ kind_shown f.0.bound_by, wrote f.0 f.2)

  -- a prefix of it
  pub chain_prefix : (found : Difference) (e : CompareError) (old new : Option (List ℕ))
      → active_claim rs ≡ active_claim ss
      → IsFirstOf (chain_pairs rs ss) (Some found) → (AreSame h.store k.store → ⊥)
      → ((p : ListPair) → view found ≡ shown p → HasWrittenPrefix old new (evidence_text p))
      → IsSettled h.store k.store old new (Err e)
  chain_prefix found e old new claims first differ wrote =
      let f = first_of_chain found claims first differ in
      inr (f.0, f.1, wrote f.0 f.2)

  -- all is equal
  pub all_equal : (old : Option (List ℕ)) → active_claim rs ≡ active_claim ss → AreSame h.store k.store
      → IsSettled h.store k.store old old (Ok Same)
  all_equal old claims same = (claims_of h.store k.store rs ss h.readings k.readings claims, same, refl)

  -- other active claims
  pub other_claims : (old : Option (List ℕ)) → (active_claim rs ≡ active_claim ss → ⊥)
      → IsSettled h.store k.store old old (Ok DifferentClaims)
  other_claims old differ = ((λ e. differ (sym (ap active_claim h.readings) ∙ e ∙ ap active_claim k.readings)), refl)

  -- no list of the chain contents differs, and the covered texts are equal
  pub covered_equal : ((first second : List ℕ) → HaveOneClaim hash said first second h.store k.store → first_difference h.store k.store ≡ None → AreSame h.store k.store)
      → (same : Bool) (old : Option (List ℕ)) → active_claim rs ≡ active_claim ss → IsFirstOf (chain_pairs rs ss) None
      → same ≡ bytes_eq (text_of text.cover a) (text_of other.cover b) → same ≡ true
      → IsSettled h.store k.store old old (Ok Same)
  covered_equal law same old claims none e yes' =
      let equal = claims_of h.store k.store rs ss h.readings k.readings claims in
      let no_pair : first_difference h.store k.store ≡ None =
      chain_none h.store k.store
      (pairs_of h.store k.store rs ss h.readings k.readings ∙ shown_none (find do_differ (chain_pairs rs ss)) none)
      ∙ covered_same h.store k.store (sym (covered_test same e) ∙ yes') in
      (equal, law a b (record { first_accepted = h.accepted; second_accepted = k.accepted; claims = equal }) no_pair, refl)

  -- the covered texts differ
  covered_first : (same : Bool) → active_claim rs ≡ active_claim ss → IsFirstOf (chain_pairs rs ss) None
      → same ≡ bytes_eq (text_of text.cover a) (text_of other.cover b) → same ≡ false
      → HaveFirst h.store k.store (covered_pair h.store k.store)
  covered_first same claims none e no' =
      let differ : bytes_eq (covered_text h.store) (covered_text k.store) ≡ false = sym (covered_test same e) ∙ no' in
      record {
        claims = claims_of h.store k.store rs ss h.readings k.readings claims;
        differ =
            λ equal. not_from_Decides (bytes_eq (covered_text h.store) (covered_text k.store)) (bytes_eq-Decides (covered_text h.store) (covered_text k.store)) differ equal.covered;
        is_first = chain_none h.store k.store (pairs_of h.store k.store rs ss h.readings k.readings ∙ shown_none (find do_differ (chain_pairs rs ss)) none)
            ∙ covered_other h.store k.store differ;
      }

  -- the text that is written of them
  covered_text_is : evidence_text (covered_pair h.store k.store) ≡ covered_evidence text.alg (text_of text.cover a)
      (text_of other.cover b)
  covered_text_is =
      covered_lines h.store k.store
      ∙ ap (λ x. covered_evidence x (covered_text h.store) (covered_text k.store)) (sym h.is_alg)
      ∙ ap (λ x. covered_evidence text.alg x (covered_text k.store)) (sym h.is_text)
      ∙ ap (covered_evidence text.alg (text_of text.cover a)) (sym k.is_text)

  -- evidence on the covered texts was written
  pub covered_written : (same : Bool) (old new : Option (List ℕ)) → active_claim rs ≡ active_claim ss
      → IsFirstOf (chain_pairs rs ss) None
      → same ≡ bytes_eq (text_of text.cover a) (text_of other.cover b) → same ≡ false
      → Appends old new (covered_evidence text.alg (text_of text.cover a) (text_of other.cover b))
      → IsSettled h.store k.store old new (Ok (Evidence EvidenceKind.Digest))
  covered_written same old new claims none e no' wrote =
      (covered_pair h.store k.store, covered_first same claims none e no', refl, subst (Appends old new) (sym covered_text_is) wrote)

  -- a prefix of it
  pub covered_prefix : (same : Bool) (error : CompareError) (old new : Option (List ℕ))
      → active_claim rs ≡ active_claim ss → IsFirstOf (chain_pairs rs ss) None
      → same ≡ bytes_eq (text_of text.cover a) (text_of other.cover b) → same ≡ false
      → HasWrittenPrefix old new (covered_evidence text.alg (text_of text.cover a) (text_of other.cover b))
      → IsSettled h.store k.store old new (Err error)
  covered_prefix same error old new claims none e no' wrote =
      inr
      (covered_pair h.store k.store, covered_first same claims none e no', subst (HasWrittenPrefix old new) (sym covered_text_is) wrote)

  -- what the covered texts say, unless the call fails
  pub said_of : {E : Type 0} (r : Result Bool E) (ka kb : Option (List ℕ)) → ka ≡ Some a → kb ≡ Some b
      → ((texts : Bool) → texts ≡ bytes_eq (text_of text.cover a) (text_of other.cover b) → Says texts)
      → IfOk r (IsSameText text.cover ka other.cover kb) → IfOk r Says
  said_of (Ok x) ka kb p q f e = f x (e a p b q)
  said_of (Err e) ka kb p q f h = tt
