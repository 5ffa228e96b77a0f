-- What a call leaves of its sources that reads the media file before the call below it does.
use Rattle.std.proofs.Common.{◌⊎◌, ℕ, List, Option, Result, Ok, subst}
use Rattle.c2_base.specs.Causes.{Rose}
use Rattle.c2_base.specs.Source.{ReadsSource}
use Rattle.c2_calls_spec.proofs.SourceLemmas.{reads_next}
use Rattle.c2_build_endings.specs.Sources.{FaultsRose, IsRead, ReadsPlanned, ReadsSigned, SourceUse, use_of}

module _ {A B T U E : Type 0} {len : A → ℕ} {known : A → Option (List ℕ)} {faults : A → ℕ} {Below : ℕ → ℕ → E → Type 0}
    {IsCause : Type 0 → ℕ → ℕ → E → Type 0} (old between new : A) (d : SourceUse B) (t : T) (r : Result U E)
    (h : ReadsSource len known faults Below old between (Ok t)) where
  -- a call that plans
  pub planned_next : ReadsPlanned IsCause (use_of len known faults between new) d r
      → ReadsPlanned IsCause (use_of len known faults old new) d r
  planned_next k = record {
    media = reads_next len known faults Below (IsCause (FaultsRose d)) old between new t r h k.media;
    definition = subst (λ (n : ℕ). IsRead (IsCause (Rose n (faults new))) d r) h.quiet k.definition;
  }

  -- a call that embeds
  pub signed_next : {C : Type 0} (m : SourceUse C) → ReadsSigned IsCause (use_of len known faults between new) d m r
      → ReadsSigned IsCause (use_of len known faults old new) d m r
  signed_next m k = record {
    media = reads_next len known faults Below (IsCause (FaultsRose d ⊎ FaultsRose m)) old between new t r h k.media;
    definition = subst (λ (n : ℕ). IsRead (IsCause (Rose n (faults new) ⊎ FaultsRose m)) d r) h.quiet k.definition;
    message = subst (λ (n : ℕ). IsRead (IsCause (Rose n (faults new) ⊎ FaultsRose d)) m r) h.quiet k.message;
  }
