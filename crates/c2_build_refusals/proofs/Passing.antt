-- What a media file was opened as, and what is known of an older store that passed its tests.
use Rattle.std.proofs.Common.{◌≡◌, ℕ, true, false, List, ◌++◌, Option, Some, None, refl, sym, ap, ◌∙◌, subst, option_map}
use Rattle.c2_base.specs.declared.values.Question.{Question}
use Rattle.c2_spec.specs.C2pa.Manifest.{store_refusal}
use Rattle.c2_spec.specs.Jumbf.Tree.{IsLegalTree, Tree}
use Rattle.c2_spec.specs.Located.{Located, Opening, absent, here, refused}
use Rattle.c2_spec.specs.declared.digest.Alg.{Alg}
use Rattle.c2_spec.specs.declared.panel.Verdict.{Verdict}
use Rattle.c2_rules.specs.Opened.{IsBoxTree, IsManifestStore, IsManifestTree, IsOpened, Opens}
use Rattle.c2_rules.specs.CheckList.{IsValid, StoreReading, check_list}
use Rattle.c2_rules.specs.Tests.{first_failing}
use Rattle.c2_rules.specs.Validated.{IsFileReading}
use Rattle.c2_rules.specs.declared.answer.Failing.{Failing}
use Rattle.c2_rules.proofs.FirstLemmas.{all_hold}
use Rattle.c2_definition.specs.declared.types.Definition.{Definition}
use Rattle.c2_new_file_spec.specs.Carrying.{CanStandOver}
use Rattle.c2_new_file_spec.specs.Refusing.{has_manifest, redaction_refusal}
use Rattle.c2_new_file_spec.specs.declared.refused.RefusedRedaction.{RefusedRedaction}
use Rattle.c2_build_refusals.specs.Refusals.{Ground, first_refusal, label_tests, older_tests, parent_tests, redaction_tests, refuse_if}
use Rattle.c2_build_refusals.proofs.Stages.{none_fails, none_of_both}
use Rattle.c2_build_refusals.specs.declared.error.BuildError.TheVariants.{LabelTaken, RedactionRefused}
use Rattle.std.specs.Option.{option_to_list}
use Rattle.c2_new_file_spec.specs.Store.{Content}
use Rattle.std.specs.Prelude.{Ok}
use Rattle.c2_build_refusals.specs.Stages.{IsMediaStage, fresh, media_stage, stored}
use Rattle.c2_rules.proofs.OpenedStore.{same_here}

-- a media file that is fresh is opened as one without a store
pub opened_absent : (media : List ℕ) → IsMediaStage media (Ok fresh) → IsOpened media absent
opened_absent media h = by h.0 h.1 h.2
  where
    by : (what : Opening Tree) → IsOpened media what → Ok fresh ≡ media_stage what → IsOpened media absent
    by (refused reason number) o e = absurd (cc (e))
    by absent o e = o
    by (here start len t) o e = absurd (cc (e))

-- a media file that has this store in this range is opened so
pub opened_here : (media : List ℕ) (start len : ℕ) (t : Tree) → IsMediaStage media (Ok (stored start len t))
    → IsOpened media (here start len t)
opened_here media start len t h = by h.0 h.1 h.2
  where
    by : (what : Opening Tree) → IsOpened media what → Ok (stored start len t) ≡ media_stage what
        → IsOpened media (here start len t)
    by (refused reason number) o e = absurd (cc (e))
    by absent o e = absurd (cc (e))
    by (here at n u) o e =
        let place : at ≡ start = cc (e) in
        let count : n ≡ len = cc (e) in
        let tree : u ≡ t = cc (e) in
        subst (λ (x : Tree). IsOpened media (here start len x)) tree
        (subst (λ (k : ℕ). IsOpened media (here start k u)) count (subst (λ (k : ℕ). IsOpened media (here k n u)) place o))

-- a ground of these
abbrev pub ground_of : List ℕ → Content → ℕ → Ground
ground_of base content manifests = record { base = base; content = content; manifests = manifests }

-- The store that a file is opened as.
pub record IsOldStore (old : Tree) : Type 0 where
  pub legal : IsLegalTree 1 old
  pub accepted : store_refusal old ≡ None

-- the store that a file is opened as is legal and a store
pub old_store : (media : List ℕ) (start len : ℕ) (old : Tree) → IsOpened media (here start len old) → IsOldStore old
old_store media start len old h = by_place h.0 h.2
  where
    by_tree : (at n : ℕ) (store : List ℕ) (what : Opening Tree) → IsBoxTree at n store what
        → Opens IsManifestTree what (here start len old) → IsOldStore old
    by_tree at n store (refused reason number) g e = absurd (cc (e))
    by_tree at n store absent g e = absurd g
    by_tree at n store (here b m t) g e =
        let same : old ≡ t = same_here start len b m old t e.1 in
        record { legal = subst (IsLegalTree 1) (sym same) g.0.legal; accepted = ap store_refusal same ∙ e.0 }

    by_place : (l : Located) → Opens IsManifestStore l (here start len old) → IsOldStore old
    by_place (refused reason number) e = absurd (cc (e))
    by_place absent e = absurd (cc (e))
    by_place (here at n store) e = by_tree at n store e.0 e.1 e.2

-- What is known of an older store that passed its tests.
pub record IsPassable (hash : Alg → List ℕ → List ℕ) (said : Question → Verdict) (d : Definition) (s : StoreReading) : Type 0 where
  pub valid : IsValid hash said s
  pub label : has_manifest s.readings d.label ≡ false
  pub redactions : redaction_refusal d.label s.readings d.redact ≡ None

-- where no test fails
pub is_passable : (hash : Alg → List ℕ → List ℕ) (said : Question → Verdict) (d : Definition) (s : StoreReading)
    → first_refusal (older_tests d s.readings (first_failing (check_list hash said s))) ≡ None
    → IsPassable hash said d s
is_passable hash said d s h =
    let found : Option Failing = first_failing (check_list hash said s) in
    let one = none_of_both (parent_tests found) (label_tests d s.readings ++ redaction_tests d s.readings) h in
    let two = none_of_both (label_tests d s.readings) (redaction_tests d s.readings) one.1 in
    record {
      valid = all_hold (check_list hash said s) (no_parent found one.0);
      label = (none_fails (has_manifest s.readings d.label) (LabelTaken d.label) None two.0).0;
      redactions = no_redaction (redaction_refusal d.label s.readings d.redact) two.1;
    }
  where
    no_parent : (o : Option Failing) → first_refusal (parent_tests o) ≡ None → o ≡ None
    no_parent None e = refl
    no_parent (Some f) e = absurd (cc (e))

    no_redaction : (o : Option RefusedRedaction)
        → first_refusal (option_to_list (option_map (λ (r : RefusedRedaction). refuse_if true (RedactionRefused r.text r.code)) o)) ≡ None
        → o ≡ None
    no_redaction None e = refl
    no_redaction (Some r) e = absurd (cc (e))

-- a store that passed may be stood over
pub stands_over :
    (hash : Alg → List ℕ → List ℕ) (said : Question → Verdict) (media : List ℕ) (d : Definition) (start len : ℕ)
    (t : Tree) (s : StoreReading)
    → IsOpened media (here start len t) → IsFileReading media t s → IsPassable hash said d s
    → CanStandOver hash said d t s
stands_over hash said media d start len t s opened reads h =
    let o = old_store media start len t opened in
    record
    { legal = o.legal; store = o.accepted; reads = reads.reads.each; valid = h.valid; label = h.label; redactions = h.redactions }
