-- What a new file is built over whose new store collects from a media file and from another file.
use Rattle.std.specs.Prelude.{◌≡◌, ℕ, ◌+◌, true, List, length}
use Rattle.std.specs.declared.option.Option.{Option}
use Rattle.std.specs.declared.option.Option.TheVariants.{Some}
use Rattle.std.specs.declared.result.Result.{Result}
use Rattle.std.specs.declared.result.Result.TheVariants.{Ok, Err}
use Rattle.c2_base.specs.Source.{IsKnownWhereDue}
use Rattle.c2_base.specs.declared.values.Question.{Question}
use Rattle.c2_spec.specs.Jumbf.Tree.{Tree}
use Rattle.c2_spec.specs.Located.{Opening, absent, here}
use Rattle.c2_spec.specs.declared.digest.Alg.{Alg}
use Rattle.c2_spec.specs.declared.panel.Verdict.{Verdict}
use Rattle.c2_definition.specs.declared.types.Definition.{Definition}
use Rattle.c2_new_file_spec.specs.Store.{Content}
use Rattle.c2_layout.specs.Parts.{IsContent}
use Rattle.c2_without_store.specs.Clears.{cleared}
use Rattle.c2_collect_spec.specs.Collected.{CollectsFrom}
use Rattle.c2_collect_spec.specs.Order.{CollectRefusal, FilePair, pair_readings}
use Rattle.c2_collect_spec.specs.Outcomes.{IsParentStage, PairAsks}
use Rattle.c2_build_refusals.specs.Kinds.{Effects, IsSourceCause, WithoutFault, judge_effects, kind_of}
use Rattle.c2_build_refusals.specs.Stages.{MediaKind, fresh, stored}
use Rattle.c2_build_refusals.specs.declared.error.BuildError.{BuildError}
use Rattle.c2_build_refusals.specs.declared.types.BuildBase.{BuildBase}
use Rattle.c2_build_base.specs.Grounds.{IsKind}
use Rattle.c2_build_base.specs.declared.media.MediaRead.{MediaRead}
use Rattle.c2_build_collect_base.specs.Errors.{IsRefusedWith}

-- ---- the media file and the other one

-- what a media file of this kind is opened as
abbrev pub opening_of : MediaKind → Opening Tree
opening_of fresh = absent
opening_of (stored start len t) = here start len t

-- a rule fails of the store of a media file that is opened so, where judges say this
abbrev pub IsParentRefused : (Alg → List ℕ → List ℕ) → (Question → Verdict) → List ℕ → Opening Tree → Type 0
IsParentRefused hash said media what = (refusal : CollectRefusal) × IsParentStage hash said media what (Err refusal)

-- these are the bytes of the other file, which isn't due where a rule fails of the media's store
abbrev pub IsOtherTold : (Alg → List ℕ → List ℕ) → (Question → Verdict) → List ℕ → Opening Tree → Option (List ℕ) → List ℕ → Type 0
IsOtherTold hash said media what known bytes = IsKnownWhereDue known (IsParentRefused hash said media what) bytes

-- ---- causes

-- what is done besides reading both files: judges are asked, and the other file is collected
abbrev pub ground_effects : Effects
ground_effects = record judge_effects { takes_other = true }

-- The cause of an error, by one of both files, where this tells that the other of them failed.
abbrev pub IsGroundCause : Type 0 → ℕ → ℕ → BuildError → Type 0
IsGroundCause Other before now e = IsSourceCause ground_effects Other before now (kind_of e)

-- ---- judges

-- Where a panel says this, these questions are asked over a media file of which this was read, and over another file, where the bytes are
-- known of the media and, where it is due, of the other.
pub record PairHears (hash : Alg → List ℕ → List ℕ) (media other : Option (List ℕ)) (m : MediaRead)
    (said : Question → Verdict) (qs : List Question) : Type 0 where
  pub bytes : List ℕ
  pub is_known : media ≡ Some bytes
  pub kind : MediaKind
  pub is : IsKind bytes m kind
  pub others : List ℕ
  pub is_told : IsOtherTold hash said bytes (opening_of kind) other others
  pub asks : PairAsks hash said bytes others (opening_of kind) qs

-- ---- the ground

-- This is what a new file of a definition is built over, of this media file and of these two files: what is left of the media; what goes into
-- the new store, which collects from both; and how many manifests that has.
pub record IsCollectedGround (hash : List ℕ → List ℕ) (media : List ℕ) (d : Definition) (k : BuildBase) (p : FilePair) : Type 0 where
  pub base : p.media.base ≡ cleared k.clearing media
  pub content : Content
  pub collects : CollectsFrom d p.media.boxes p.other.boxes p.media.readings p.other.readings content
  pub is : IsContent hash d k.carried content
  pub manifests : k.manifests ≡ length (pair_readings p) + 1

-- what a new file is built over, by the outcome of both files, or the error of what is refused of them first, unless that says nothing of
-- the inputs
abbrev pub IsGroundOf : (List ℕ → List ℕ) → List ℕ → Definition → (Result FilePair CollectRefusal → Type 0) → Result BuildBase BuildError → Type 0
IsGroundOf hash media d Is (Ok k) = (p : FilePair) × Is (Ok p) × IsCollectedGround hash media d k p
IsGroundOf hash media d Is (Err e) = WithoutFault e (IsRefusedWith Is e)
