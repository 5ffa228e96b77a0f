-- What a new store takes over of an older one that is valid: its boxes less those that are redacted, and its last manifest as the
-- parent. All that the rules of the new store ask of them follows.
use Rattle.std.specs.Prelude.{◌≡◌, ◌-◌, ◌<◌, ℕ, true, false, List, [], ◌∷◌, length, map, slice_get}
use Rattle.std.specs.declared.option.Option.TheVariants.{Some, None}
use Rattle.std.specs.List.{AllByRecursion}
use Rattle.std.specs.Option.{option_map_or}
use Rattle.c2_base.specs.declared.limits.TheConstants.{MAX_MANIFESTS}
use Rattle.c2_base.specs.declared.values.Question.{Question}
use Rattle.c2_spec.specs.C2pa.Manifest.{is_manifest_label, manifests_of, store_refusal}
use Rattle.c2_spec.specs.Jpeg.Places.{IsOfSegments}
use Rattle.c2_spec.specs.Jpeg.Segments.{Segment}
use Rattle.c2_spec.specs.Jpeg.Store.{HasJpegStore, NoneBegins}
use Rattle.c2_spec.specs.Jumbf.Tree.{IsLabel, IsLegalTree, Tree}
use Rattle.c2_spec.specs.PutIn.{taken_out}
use Rattle.c2_spec.specs.declared.digest.Alg.{Alg}
use Rattle.c2_spec.specs.declared.panel.Verdict.{Verdict}
use Rattle.c2_rules.specs.Chains.{LabelsDiffer, place_of}
use Rattle.c2_rules.specs.CheckList.{IsValid, StoreReading, chain_tests}
use Rattle.c2_rules.specs.Readings.{AreReadings, Reading}
use Rattle.c2_rules.specs.Rules.{redaction_tests, unjudged_tests}
use Rattle.c2_rules.specs.Seen.{signature_contents}
use Rattle.c2_rules.specs.Tests.{AllHold, Test, each, first_failing}
use Rattle.c2_rules.specs.declared.answer.Failing.{Failing}
use Rattle.c2_rules.specs.declared.code.Code.{Code}
use Rattle.c2_rules.specs.declared.code.Code.TheVariants.{ProfileRedactionTarget}
use Rattle.c2_chain_spec.specs.Rooted.{ReadsKinds}
use Rattle.c2_definition.specs.declared.types.Definition.{Definition}
use Rattle.c2_new_file_spec.specs.Manifests.{manifest_of, supers_in}
use Rattle.c2_new_file_spec.specs.Store.{Content, NamedManifest}
use Rattle.c2_new_file_spec.specs.Written.{CanBeCarried}
use Rattle.c2_new_file_spec.specs.Less.{AreLess, CanRedact}
use Rattle.c2_new_file_spec.specs.Parents.{IsContentOver, IsParentOf}
use Rattle.c2_new_file_spec.specs.Refusing.{has_manifest, new_claim_uri, redaction_refusal}

-- ---- redactions

-- the rules on redactions hold of each of these in the new manifest with this label
abbrev pub RedactionsPass : List ℕ → List (List ℕ) → Type 0
RedactionsPass own redacts = AllHold (each (λ k text. redaction_tests own (new_claim_uri own) text) 0 redacts)

-- Redactions of which none is refused may be made, and their rules hold.
pub record AreAccepted (own : List ℕ) (rs : List Reading) (redacts : List (List ℕ)) : Type 0 where
  pub can : CanRedact redacts rs
  pub rules : RedactionsPass own redacts

-- redactions of which none is refused are accepted in each store, whose manifests have different labels
abbrev pub RedactionsAreAccepted : Type 0
RedactionsAreAccepted = (own : List ℕ) (rs : List Reading) (redacts : List (List ℕ))
    → LabelsDiffer rs → redaction_refusal own rs redacts ≡ None → AreAccepted own rs redacts

-- the code of the first of these rules that fails; where none does, there is no assertion to take out
abbrev pub code_of_first : List Test → Code
code_of_first rules = option_map_or (λ (f : Failing). f.code) (first_failing rules) ProfileRedactionTarget

-- Without an older store the first redaction is refused: by the rules on redactions, or since what it names isn't there.
abbrev pub FirstIsRefused : Type 0
FirstIsRefused = (own text : List ℕ) (others : List (List ℕ))
    → redaction_refusal own [] (text ∷ others)
    ≡ Some (record { text = text; code = code_of_first (redaction_tests own (new_claim_uri own) text) })

-- ---- the parent

-- manifests have one parent at most
abbrev pub ParentIsOne : Type 0
ParentIsOne = (manifests : List Tree) (p q : NamedManifest) → IsParentOf p manifests → IsParentOf q manifests → p ≡ q

-- one content at most goes into a new store over an older one
abbrev pub ContentIsOne : Type 0
ContentIsOne = (d : Definition) (old : Tree) (b c : Content) → IsContentOver d old b → IsContentOver d old c → b ≡ c

-- ---- what is taken over

-- An older store, whose manifests were read as `rs`, is taken over: the carried boxes can be, and are read as `ss`, the same less
-- what is redacted; all rules but the verdicts hold of the older manifests; and the redactions may be made.
pub record IsTakenOver (hash : Alg → List ℕ → List ℕ) (c : Content) (rs ss : List Reading) : Type 0 where
  pub carried : CanBeCarried c.definition.label c.carried
  pub reads : AreReadings (map manifest_of (supers_in c.carried)) ss
  pub less : AreLess c.definition.redact rs ss
  pub kinds : AllByRecursion ReadsKinds rs
  pub holds : AllHold (chain_tests (unjudged_tests hash) rs)
  pub can : CanRedact c.definition.redact rs
  pub redactions : RedactionsPass c.definition.label c.definition.redact

-- The parent is the last manifest of `ss`, as it stands there; in `rs` it stands at the same place, under its label.
pub record IsLast (p : NamedManifest) (rs ss : List Reading) : Type 0 where
  pub place : place_of rs p.label ≡ Some (length rs - 1)
  pub some : 0 < length rs
  pub active : Reading
  pub is_active : slice_get ss (length rs - 1) ≡ Some active
  pub contents : active.manifest.contents ≡ p.contents
  pub signed : signature_contents active ≡ Some p.signed
  pub label : IsLabel p.label
  pub names : is_manifest_label (Some p.label) ≡ true

-- An older store that a new one of this definition may stand over, as far as its number of manifests allows: a valid one, which
-- judges who say this approve, without a manifest of the new label, and with no redaction that is refused.
pub record CanStandOver (hash : Alg → List ℕ → List ℕ) (said : Question → Verdict) (d : Definition) (old : Tree) (s : StoreReading) : Type 0 where
  pub legal : IsLegalTree 1 old
  pub store : store_refusal old ≡ None
  pub reads : AreReadings (manifests_of old) s.readings
  pub valid : IsValid hash said s
  pub label : has_manifest s.readings d.label ≡ false
  pub redactions : redaction_refusal d.label s.readings d.redact ≡ None

-- the boxes of an older store that was read as `rs` are taken over, and the last of them as the parent
pub record IsCarried (hash : Alg → List ℕ → List ℕ) (c : Content) (rs : List Reading) : Type 0 where
  pub readings : List Reading
  pub over : IsTakenOver hash c rs readings
  pub last : (p : NamedManifest) → IsParentOf p (supers_in c.carried) → IsLast p rs readings

-- What goes into a new store over an older one on which it can stand takes over the older store's boxes, and the last of them as the
-- parent, where there is room for one more manifest.
abbrev pub ValidStoreIsCarried : Type 0
ValidStoreIsCarried = (hash : Alg → List ℕ → List ℕ) (said : Question → Verdict) (d : Definition) (old : Tree) (s : StoreReading) (c : Content)
    → CanStandOver hash said d old s → length s.readings < MAX_MANIFESTS → IsContentOver d old c → IsCarried hash c s.readings

-- Over an older store on which a new one can stand there is a content for the new store, whether there is room for one more manifest or
-- not.
abbrev pub SomeContentOver : Type 0
SomeContentOver = (hash : Alg → List ℕ → List ℕ) (said : Question → Verdict) (d : Definition) (old : Tree) (s : StoreReading)
    → CanStandOver hash said d old s → (c : Content) × IsContentOver d old c

-- ---- the base

-- The base of a new JPEG file: these segments are left of the older one, none of which begins a store.
pub record IsFreeBase (base : List ℕ) : Type 0 where
  pub segments : List Segment
  pub is_of : IsOfSegments base segments
  pub none : NoneBegins segments

-- A JPEG file less the range of its store is one.
abbrev pub BaseHasNoStore : Type 0
BaseHasNoStore = (file : List ℕ) (start len : ℕ) (store : List ℕ)
    → HasJpegStore file start len store → IsFreeBase (taken_out start len file)
