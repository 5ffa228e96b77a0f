-- What was drafted with a message, and what is to be built of a definition with that.
use Rattle.std.proofs.Common.{◌≡◌, ℕ, List, Option, subst, sym}
use Rattle.std.specs.Prelude.{Err, IfErr, IfOk, Ok, Result}
use Rattle.std.specs.declared.alloc.Global.{Global}
use Rattle.std.specs.declared.vec.Vec.{Vec}
use Rattle.c2_lemmas.specs.Stages.{Then}
use Rattle.c2_base.specs.Source.{ReadsSource}
use Rattle.c2_base.specs.declared.values.Question.{Question}
use Rattle.c2_spec.specs.C2pa.Sign1.{SignParts}
use Rattle.c2_spec.specs.Jumbf.Tree.{Tree}
use Rattle.c2_spec.specs.Located.{Opening}
use Rattle.c2_spec.specs.declared.digest.Alg.{Alg}
use Rattle.c2_spec.specs.declared.panel.Verdict.{Verdict}
use Rattle.c2_rules.specs.Asking.{HearsPanel}
use Rattle.c2_definition.specs.DefinitionFile.{IsWellFormed}
use Rattle.c2_definition.specs.declared.types.Definition.{Definition}
use Rattle.c2_new_signature.specs.Signed.{IsSigned}
use Rattle.c2_new_file_spec.specs.Store.{new_alg}
use Rattle.c2_without_store.specs.Clears.{cleared_len}
use Rattle.c2_collect_spec.specs.Outcomes.{IsMadeOver, IsPairStage}
use Rattle.c2_build_refusals.specs.Kinds.{WithoutFault, build_heard}
use Rattle.c2_build_refusals.specs.Refusals.{IsReserveRefusal}
use Rattle.c2_build_refusals.specs.declared.error.BuildError.{BuildError}
use Rattle.c2_build_refusals.specs.declared.types.Drafted.{Drafted}
use Rattle.c2_build_refusals.proofs.Judged.{hears_behind, hears_failed}
use Rattle.c2_build_refusals.proofs.Outside.{outside_map}
use Rattle.c2_build_endings.specs.Sources.{SourceUse}
use Rattle.c2_build_parts.specs.Bound.{IsSmall}
use Rattle.c2_build_drafts.specs.Drafts.{FitsMedia}
use Rattle.c2_build_drafts.specs.declared.ready.DraftedBuild.{DraftedBuild}
use Rattle.c2_build_collect.specs.Answers.{ReadsSignedPair}
use Rattle.c2_build_collect.specs.Steps.{IsBuildFor, IsDrafted, MakesFile, build_of}
use Rattle.c2_build_collect.specs.declared.filling.FilledDraft.{FilledDraft}
use Rattle.c2_build_collect.proofs.Planned.{draft_makes, reserve_refused}

-- ---- what was drafted, with a message

-- what was drafted makes the new file with the message that fills what is reserved, or the message doesn't fit
pub draft_filled :
    (hash : Alg → List ℕ → List ℕ) (said : Question → Verdict) (media other : List ℕ) (what : Opening Tree)
    (d : Definition) (parts : SignParts) (w : Drafted) (r : Result FilledDraft BuildError)
    → IsDrafted hash said media other what d w → IfOk r (λ f. f.drafted ≡ w)
    → IfOk r (λ f. IsSigned parts d.reserve f.message) → IfErr r (λ e. WithoutFault e (IsReserveRefusal d parts e))
    → IsBuildFor hash media (Then (IsPairStage hash said media other what d) (IsMadeOver hash d parts)) (build_of d r)
draft_filled hash said media other what d parts w (Ok f) at same signed refused =
    subst
    (λ (x : Drafted). MakesFile hash media (Then (IsPairStage hash said media other what d) (IsMadeOver hash d parts)) (record { definition = d; drafted = x; message = f.message }))
    (sym same) (draft_makes hash said media other what d parts w f.message at signed)
draft_filled hash said media other what d parts w (Err e) at same signed refused =
    outside_map e (reserve_refused hash said media other what d parts at.ground e at.passed) refused

-- it fits the media for which it was drafted
pub filled_fits : (hash : Alg → List ℕ → List ℕ) (len : ℕ) (d : Definition) (parts : SignParts) (w : Drafted)
    (r : Result FilledDraft BuildError)
    → IsWellFormed d → IsSmall (hash (new_alg d)) (cleared_len w.ground.clearing len) d w
    → IfOk r (λ f. f.drafted ≡ w) → IfOk r (λ f. IsSigned parts d.reserve f.message)
    → IfOk (build_of d r) (FitsMedia hash len)
filled_fits hash len d parts w (Ok f) formed small same signed = record {
  formed = formed;
  small =
      subst (λ (x : Drafted). IsSmall (hash (new_alg d)) (cleared_len x.ground.clearing len) d x) (sym same) small;
  filled = signed.filled;
}
filled_fits hash len d parts w (Err e) formed small same signed = tt

-- ---- what is to be built of a definition

-- one source is read for it as for what was drafted
reads_built :
    {S : Type 0} {len : S → ℕ} {known : S → Option (List ℕ)} {faults : S → ℕ} {IsCause : ℕ → ℕ → BuildError → Type 0}
    {old new : S} (d : Definition) (r : Result FilledDraft BuildError)
    → ReadsSource len known faults IsCause old new r → ReadsSource len known faults IsCause old new (build_of d r)
reads_built d (Ok f) h = record { stays = h.stays; quiet = h.quiet; cause = tt }
reads_built d (Err e) h = record { stays = h.stays; quiet = tt; cause = h.cause }

-- all are
pub pair_built :
    {A B C D : Type 0} {IsCause : Type 0 → ℕ → ℕ → BuildError → Type 0} {a : SourceUse A} {b : SourceUse B}
    {m : SourceUse C} {o : SourceUse D} (d : Definition) (r : Result FilledDraft BuildError)
    (s : Result DraftedBuild BuildError)
    → s ≡ build_of d r → ReadsSignedPair IsCause a b m o r → ReadsSignedPair IsCause a b m o s
pair_built {IsCause = IsCause} {a} {b} {m} {o} d r s same h =
    subst (λ (x : Result DraftedBuild BuildError). ReadsSignedPair IsCause a b m o x) (sym same) (record {
      media = reads_built d r h.media;
      definition = reads_built d r h.definition;
      message = reads_built d r h.message;
      other = reads_built d r h.other;
    })

-- the judges hear for it what they heard for what was drafted
pub hears_built :
    {J : Type 0} {says : J → Question → Verdict} {times faults : J → ℕ}
    {Asks : (Question → Verdict) → List Question → Type 0} (old new : Vec J Global) (d : Definition)
    (r : Result FilledDraft BuildError) (s : Result DraftedBuild BuildError)
    → s ≡ build_of d r → HearsPanel says times faults build_heard Asks old new r
    → HearsPanel says times faults build_heard Asks old new s
hears_built {J} {says} {times} {faults} {Asks} old new d r s same h =
    subst (λ (x : Result DraftedBuild BuildError). HearsPanel says times faults build_heard Asks old new x) (sym same) (by r h)
  where
    by : (x : Result FilledDraft BuildError) → HearsPanel says times faults build_heard Asks old new x
        → HearsPanel says times faults build_heard Asks old new (build_of d x)
    by (Ok f) k = hears_behind old new f _ tt (λ qs asks. asks) k
    by (Err e) k = hears_failed old new e (λ qs asks. asks) k
