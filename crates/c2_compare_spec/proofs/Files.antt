-- The laws of two accepted files with one active claim.
use Rattle.std.proofs.Common.{◌≡◌, ◌⊎◌, inl, inr, ℕ, ◌-◌, length, List, [], ◌∷◌, ◌++◌, Some, None, subst}
use Rattle.std.specs.List.{find}
use Rattle.c2_base.specs.declared.values.Question.{Question}
use Rattle.c2_spec.specs.C2pa.Manifest.{manifests_of}
use Rattle.c2_spec.specs.declared.digest.Alg.{Alg}
use Rattle.c2_spec.specs.declared.panel.Verdict.{Verdict}
use Rattle.c2_rules.specs.Chains.{IsChild, Reached, is_redacted}
use Rattle.c2_rules.specs.CheckList.{StoreReading}
use Rattle.c2_rules.specs.Readings.{Reading}
use Rattle.c2_rules.proofs.OpenedStore.{opened_store}
use Rattle.c2_compare_spec.specs.Accepted.{IsOpenedAs, IsAccepted, HaveOneClaim, AreSame}
use Rattle.c2_compare_spec.specs.ChainContent.{claim_bytes_of}
use Rattle.c2_compare_spec.specs.Correspondence.{Correspond, HaveSameClaim}
use Rattle.c2_compare_spec.specs.Differences.{ingredients_at, all_ingredients, all_unredacted, covered_pair, first_difference}
use Rattle.c2_compare_spec.specs.Evidence.{ListPair, do_differ, IsReal}
use Rattle.c2_compare_spec.specs.Lists.{IsReachedAt, IsListOf}
use Rattle.c2_compare_spec.specs.Lists.IsListOf.{in_store}
use Rattle.c2_compare_spec.proofs.Alike.{same_claim}
use Rattle.c2_compare_spec.proofs.Contents.{all_unredacted_real, same_content}
use Rattle.c2_compare_spec.proofs.Covered.{covered_alike}
use Rattle.c2_compare_spec.proofs.Facts.{SeenAlike, FileFacts, IsShown}
use Rattle.c2_compare_spec.proofs.Lists.{option_cases, found_append, none_append}
use Rattle.c2_compare_spec.proofs.Pairs.{found_only, none_pair}
use Rattle.c2_compare_spec.proofs.Stored.{IsStored, tree_facts, seen_alike}
use Rattle.c2_compare_spec.proofs.ValidBinding.{file_facts}
use Rattle.c2_compare_spec.proofs.Steps.{ingredients_real, step, step_back}
use Rattle.c2_compare_spec.proofs.Walk.{root, all_ingredients_real, forth, back, redacted_alike}

-- ---- the box tree of a file

-- what is read of it
stored : (file : List ℕ) (s : StoreReading) (o : IsOpenedAs file s) → IsStored o.tree s.readings
stored file s o =
    let t = opened_store file o.start o.len o.tree o.is_opened in
    record { legal = t.legal; accepted = t.accepted; readings = o.reads.reads.each }

-- all that the laws use of an accepted file
pub facts : (hash : Alg → List ℕ → List ℕ) (said : Question → Verdict) (file : List ℕ) (s : StoreReading)
    → IsAccepted hash said file s
    → FileFacts hash said s
facts hash said file s h =
    file_facts hash said h.opened.reads.media (manifests_of h.opened.tree) s h.opened.reads.reads
    (tree_facts h.opened.tree s.readings (stored file s h.opened)) h.valid

-- equal contents are seen alike in both
pub alike : (hash : Alg → List ℕ → List ℕ) (said : Question → Verdict) (first second : List ℕ)
    (s t : StoreReading) → HaveOneClaim hash said first second s t
    → SeenAlike s.readings t.readings
alike hash said first second s t h =
    seen_alike h.first_accepted.opened.tree h.second_accepted.opened.tree s.readings t.readings
    (stored first s h.first_accepted.opened)
    (stored second t h.second_accepted.opened)

-- equal claim bytes of reached manifests are one claim
pub accepted_claims : (hash : Alg → List ℕ → List ℕ) (said : Question → Verdict) (first second : List ℕ)
    (s t : StoreReading) → IsAccepted hash said first s → IsAccepted hash said second t → (n m : ℕ) (r q : Reading)
    → IsReachedAt s.readings n r → IsReachedAt t.readings m q → claim_bytes_of r ≡ claim_bytes_of q → HaveSameClaim r q
accepted_claims hash said first second s t h k n m r q at there e =
    let f = (facts hash said first s h).store in
    let g = (facts hash said second t k).store in
    let a = (f.manifests n r at.at_place at.reached).approved in
    let b = (g.manifests m q there.at_place there.reached).approved in
    same_claim r q (f.tree.reads n r at.at_place) (g.tree.reads m q there.at_place) e a.claim b.claim a.has_claim
    b.has_claim

-- ---- the laws

module _ (hash : Alg → List ℕ → List ℕ) (said : Question → Verdict) (first second : List ℕ)
    (s t : StoreReading)
    (h : HaveOneClaim hash said first second s t) where
  -- the facts of the first file
  own : FileFacts hash said s
  own = facts hash said first s h.first_accepted

  -- the facts of the second file
  other : FileFacts hash said t
  other = facts hash said second t h.second_accepted

  -- equal contents are seen alike
  both : SeenAlike s.readings t.readings
  both = alike hash said first second s t h

  -- the step to a child
  pub step_of : (n m : ℕ) → Correspond s.readings t.readings n m
      → find do_differ (ingredients_at s.readings t.readings n) ≡ None → (j : ℕ) → IsChild s.readings n j
      → (i : ℕ) × Correspond s.readings t.readings j i × IsChild t.readings m i
  step_of = step hash said s.readings t.readings own.store other.store both

  -- a child in the second file corresponds to one in the first
  pub step_back_of : (n m : ℕ) → Correspond s.readings t.readings n m
      → find do_differ (ingredients_at s.readings t.readings n) ≡ None → (i : ℕ) → IsChild t.readings m i
      → (j : ℕ) × Correspond s.readings t.readings j i × IsChild s.readings n j
  step_back_of = step_back hash said s.readings t.readings own.store other.store both

  -- a difference of ingredients is real
  pub ingredients_real_of : (n m : ℕ) → Correspond s.readings t.readings n m → (p : ListPair)
      → find do_differ (ingredients_at s.readings t.readings n) ≡ Some p → IsReal hash said p
  ingredients_real_of n m w p found =
      (ingredients_real hash said s.readings t.readings own.store other.store both n m w p found).real

  -- the active manifests correspond
  pub root_of : Correspond s.readings t.readings (length s.readings - 1) (length t.readings - 1)
  root_of = root hash said s.readings t.readings own.store other.store both h.claims

  -- all manifests that are reached in the first file correspond to some of the second
  pub forth_of : find do_differ (all_ingredients s.readings t.readings) ≡ None → (n : ℕ) → Reached s.readings n
      → (m : ℕ) × Correspond s.readings t.readings n m
  forth_of = forth hash said s.readings t.readings own.store other.store both h.claims

  -- all manifests that are reached in the second file correspond to some of the first
  pub back_of : find do_differ (all_ingredients s.readings t.readings) ≡ None → (m : ℕ) → Reached t.readings m
      → (n : ℕ) × Correspond s.readings t.readings n m
  back_of = back hash said s.readings t.readings own.store other.store both h.claims

  -- with the same redactions
  pub redacted_of : find do_differ (all_ingredients s.readings t.readings) ≡ None → (n m : ℕ)
      → Correspond s.readings t.readings n m → (label : List ℕ)
      → is_redacted s.readings n label ≡ is_redacted t.readings m label
  redacted_of = redacted_alike hash said s.readings t.readings own.store other.store both h.claims

  -- The first difference is real evidence, and its lists are lists of both files.
  record IsFirst (p : ListPair) : Type 0 where
    real : IsReal hash said p
    left : IsListOf s p.left
    right : IsListOf t p.right

  -- what is shown of both stores
  shown : (p : ListPair) → IsShown hash said s.readings t.readings p → IsFirst p
  shown p e = record { real = e.real; left = in_store p.left e.left; right = in_store p.right e.right }

  -- by the part of the list of pairs
  first_is : (p : ListPair) → first_difference s t ≡ Some p → IsFirst p
  first_is p found =
      elim (found_append do_differ (all_ingredients s.readings t.readings)
      (all_unredacted s.readings t.readings ++ covered_pair s t ∷ []) p found) [
        | inl leads ↦
            shown p (all_ingredients_real hash said s.readings t.readings own.store other.store both h.claims
            p leads)
        | inr rest ↦ elim (found_append do_differ (all_unredacted s.readings t.readings)
            (covered_pair s t ∷ []) p
            rest.1) [
              | inl kept ↦
                  shown p
                  (all_unredacted_real hash said s.readings t.readings own.store other.store both h.claims
                  rest.0 p
                  kept)
              | inr last ↦
                  let covered = found_only (covered_pair s t) p last.1 in
                  let c = covered_alike hash said s t own other both h.claims rest.0 last.0 in
                  subst IsFirst covered.0
                  (record {
                    real = record {
                      alg = c.alg;
                      known = c.known;
                      differ = covered.1;
                      same_digest =
                          c.same_digest;
                    };
                    left = c.left;
                    right = c.right;
                  })
            ]
      ]

  -- the first difference is real evidence
  pub difference_is_real : (p : ListPair) → first_difference s t ≡ Some p → IsReal hash said p
  difference_is_real p found = (first_is p found).real

  -- the lists of the first difference are lists of both files
  pub lists_are_theirs : (p : ListPair) → first_difference s t ≡ Some p
      → IsListOf s p.left × IsListOf t p.right
  lists_are_theirs p found = let x = first_is p found in (x.left, x.right)

  -- without a difference chain contents and covered texts are equal
  pub no_difference : first_difference s t ≡ None → AreSame s t
  no_difference none =
      let leads =
      none_append do_differ (all_ingredients s.readings t.readings)
      (all_unredacted s.readings t.readings ++ covered_pair s t ∷ []) none in
      let rest =
      none_append do_differ (all_unredacted s.readings t.readings) (covered_pair s t ∷ []) leads.1 in
      record {
        content =
            same_content hash said s.readings t.readings own.store other.store both h.claims leads.0
            rest.0;
        covered = (none_pair (covered_pair s t) [] rest.1).0;
      }

  -- one or the other
  pub same_or_evidence : AreSame s t ⊎ ((p : ListPair) × (first_difference s t ≡ Some p) × IsReal hash said p)
  same_or_evidence =
      elim (option_cases (first_difference s t)) [
        | inl none ↦ inl (no_difference none)
        | inr some ↦ inr (some.0, some.1, difference_is_real some.0 some.1)
      ]

  -- where chain contents or covered texts differ there is a first difference, and it is real
  pub difference_is_found : (AreSame s t → ⊥)
      → (p : ListPair) × (first_difference s t ≡ Some p) × IsReal hash said p
  difference_is_found differ =
      elim (option_cases (first_difference s t)) [
        | inl none ↦ absurd (differ (no_difference none))
        | inr some ↦ (some.0, some.1, difference_is_real some.0 some.1)
      ]
