-- What a new store takes over of a chain that is seen from roots (C2PA Technical Specification 2.x, "Ingredient" and "Redaction of
-- assertions"): its boxes less those that are redacted. And what its manifests ask of judges.
use Rattle.std.specs.Prelude.{◌≡◌, ◌<◌, ℕ, true, List, [], map, length, slice_get, if◌then◌else◌}
use Rattle.std.specs.declared.option.Option.TheVariants.{Some}
use Rattle.c2_base.specs.declared.values.Question.{Question}
use Rattle.c2_spec.specs.C2pa.Manifest.{is_manifest_label}
use Rattle.c2_spec.specs.Jumbf.Tree.{IsLabel, Trees}
use Rattle.c2_spec.specs.declared.digest.Alg.{Alg}
use Rattle.c2_rules.specs.Chains.{place_of}
use Rattle.c2_rules.specs.CheckList.{questions_of}
use Rattle.c2_rules.specs.Readings.{AreReadings, Reading}
use Rattle.c2_rules.specs.Seen.{signature_contents}
use Rattle.c2_rules.specs.Tests.{downward}
use Rattle.c2_chain_spec.specs.Rooted.{IsRooted, is_reached_from}
use Rattle.c2_definition.specs.declared.types.Definition.{Definition}
use Rattle.c2_new_file_spec.specs.Manifests.{manifest_of, supers_in}
use Rattle.c2_new_file_spec.specs.Store.{NamedManifest}
use Rattle.c2_new_file_spec.specs.Written.{CanBeCarried}
use Rattle.c2_new_file_spec.specs.Carrying.{RedactionsPass}
use Rattle.c2_new_file_spec.specs.Less.{AreLess, CanRedactBy}

-- A chain `rs` that is seen from roots is taken over: the carried boxes can be, and are read as `ss`, the same less what is redacted;
-- all rules but the verdicts hold of what is reached from the roots; and the redactions may be made.
pub record IsTakenFrom (hash : Alg → List ℕ → List ℕ) (d : Definition) (carried : Trees) (roots : List ℕ) (rs ss : List Reading) : Type 0 where
  pub can_be : CanBeCarried d.label carried
  pub reads : AreReadings (map manifest_of (supers_in carried)) ss
  pub less : AreLess d.redact rs ss
  pub rooted : IsRooted hash rs roots
  pub can : CanRedactBy (is_reached_from rs roots) d.redact rs
  pub redactions : RedactionsPass d.label d.redact

-- A manifest that an ingredient names, as it stands in `ss`; in `rs` it stands at this place, under its label.
pub record IsRoot (rs ss : List Reading) (p : NamedManifest) (root : ℕ) : Type 0 where
  pub place : place_of rs p.label ≡ Some root
  pub within : root < length rs
  pub named : Reading
  pub is_named : slice_get ss root ≡ Some named
  pub contents : named.manifest.contents ≡ p.contents
  pub signed : signature_contents named ≡ Some p.signed
  pub label : IsLabel p.label
  pub names : is_manifest_label (Some p.label) ≡ true

-- the question of the manifest at place `i`, where it is reached from roots and has one
abbrev pub question_from : List Reading → List ℕ → ℕ → List Question
question_from rs roots i = if is_reached_from rs roots i then questions_of (slice_get rs i) else []

-- the questions of all manifests that are reached from roots, the last first
abbrev pub questions_from : List Reading → List ℕ → List Question
questions_from rs roots = downward (question_from rs roots) (length rs)
