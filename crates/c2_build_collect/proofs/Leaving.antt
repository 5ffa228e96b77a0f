-- What `plan_collect` and `embed_collect` leave of their sources, by what is left of them at each step.
use Rattle.std.proofs.Common.{◌≡◌, ◌⊎◌, inl, ℕ, List, Option, subst}
use Rattle.std.specs.Prelude.{⊤, Ok, Err, Result}
use Rattle.c2_base.specs.Causes.{Rose}
use Rattle.c2_base.specs.Source.{ReadsSource}
use Rattle.c2_calls_spec.proofs.SourceLemmas.{reads_next}
use Rattle.c2_copying.specs.Writing.{IsCopyReadCause as CopyReadCause}
use Rattle.c2_copying.specs.declared.copying.CopyError.{CopyError}
use Rattle.c2_build_refusals.specs.Kinds.{Effects, IsSourceCause, MayCome, kind_of}
use Rattle.c2_build_refusals.specs.declared.error.BuildError.{BuildError}
use Rattle.c2_build_refusals.proofs.Doing.{DoesNoMore}
use Rattle.c2_build_endings.specs.Sources.{FaultsRose, IsRead, SourceUse, use_of}
use Rattle.c2_build_writing.specs.Puts.{copy_fault_of}
use Rattle.c2_build_in_place.proofs.Leaving.{beside_broken, beside_copied, media_broken, media_copied, read_failed}
use Rattle.c2_build_collect.specs.Answers.{ReadsPlannedPair, ReadsSignedPair}

-- ---- the media file was read before

module _ {A B D T U E : Type 0} {len : A → ℕ} {known : A → Option (List ℕ)} {faults : A → ℕ} {Below : ℕ → ℕ → E → Type 0}
    {IsCause : Type 0 → ℕ → ℕ → E → Type 0} (old between new : A) (d : SourceUse B) (o : SourceUse D) (t : T)
    (r : Result U E) (h : ReadsSource len known faults Below old between (Ok t)) where
  -- by a call that plans
  pub plan_next : ReadsPlannedPair IsCause (use_of len known faults between new) d o r
      → ReadsPlannedPair IsCause (use_of len known faults old new) d o r
  plan_next k = record {
    media = reads_next len known faults Below (IsCause (FaultsRose d ⊎ FaultsRose o)) old between new t r h k.media;
    definition = subst (λ (n : ℕ). IsRead (IsCause (Rose n (faults new) ⊎ FaultsRose o)) d r) h.quiet k.definition;
    other = subst (λ (n : ℕ). IsRead (IsCause (Rose n (faults new) ⊎ FaultsRose d)) o r) h.quiet k.other;
  }

  -- by a call that embeds
  pub pair_next : {C : Type 0} (m : SourceUse C) → ReadsSignedPair IsCause (use_of len known faults between new) d m o r
      → ReadsSignedPair IsCause (use_of len known faults old new) d m o r
  pair_next m k = record {
    media = reads_next len known faults Below (IsCause (FaultsRose d ⊎ (FaultsRose m ⊎ FaultsRose o))) old between new t r
        h k.media;
    definition = subst (λ (n : ℕ). IsRead (IsCause (Rose n (faults new) ⊎ (FaultsRose m ⊎ FaultsRose o))) d r) h.quiet
        k.definition;
    message = subst (λ (n : ℕ). IsRead (IsCause (Rose n (faults new) ⊎ (FaultsRose d ⊎ FaultsRose o))) m r) h.quiet
        k.message;
    other =
        subst (λ (n : ℕ). IsRead (IsCause (Rose n (faults new) ⊎ (FaultsRose d ⊎ FaultsRose m))) o r) h.quiet k.other;
  }

-- ---- the new file is written

-- a step failed before anything was written
pub pair_failed : {A B C D T U : Type 0} (a b : Effects) → DoesNoMore a b → (x : SourceUse A) (y : SourceUse B)
    (z : SourceUse C) (o : SourceUse D) (e : BuildError)
    → ReadsSignedPair {T = T} (λ O m n f. IsSourceCause a O m n (kind_of f)) x y z o (Err e)
    → ReadsSignedPair {T = U} (λ O m n f. IsSourceCause b O m n (kind_of f)) x y z o (Err e)
pair_failed a b does x y z o e h = record {
  media = read_failed a b does h.media;
  definition = read_failed a b does h.definition;
  message = read_failed a b does h.message;
  other = read_failed a b does h.other;
}

-- the media file was copied
pub pair_copied : {A B C D T U V : Type 0} {IsBelow IsCause : Type 0 → ℕ → ℕ → BuildError → Type 0} (x : SourceUse A)
    (y : SourceUse B) (z : SourceUse C) (o : SourceUse D) (new : A) (t : T) (u : U) (v : V)
    → ReadsSignedPair IsBelow x y z o (Ok t) → ReadsSource x.len x.known x.faults CopyReadCause x.new new (Ok v)
    → ReadsSignedPair IsCause (use_of x.len x.known x.faults x.old new) y z o (Ok u)
pair_copied x y z o new t u v h copy = record {
  media = media_copied x new t u v h.media copy;
  definition = beside_copied y t u h.definition;
  message = beside_copied z t u h.message;
  other = beside_copied o t u h.other;
}

-- its copy failed
pub pair_broken : {A B C D T U V : Type 0} (does : Effects) → MayCome does.writes_file ⊤
    → {IsBelow : Type 0 → ℕ → ℕ → BuildError → Type 0} (x : SourceUse A) (y : SourceUse B) (z : SourceUse C)
    (o : SourceUse D) (new : A) (t : T) (e : CopyError) (f : BuildError) → f ≡ copy_fault_of e
    → ReadsSignedPair IsBelow x y z o (Ok t)
    → ReadsSource {T = V} x.len x.known x.faults CopyReadCause x.new new (Err e)
    → ReadsSignedPair {T = U} (λ O m n g. IsSourceCause does O m n (kind_of g)) (use_of x.len x.known x.faults x.old new)
    y z o (Err f)
pair_broken does may x y z o new t e f is h copy = record {
  media = media_broken does may x new t e f is h.media copy;
  definition = beside_broken does may x new h.media.quiet y t e f is inl copy h.definition;
  message = beside_broken does may x new h.media.quiet z t e f is inl copy h.message;
  other = beside_broken does may x new h.media.quiet o t e f is inl copy h.other;
}
