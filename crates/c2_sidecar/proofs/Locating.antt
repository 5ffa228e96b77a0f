-- What was located in a file.
use Rattle.std.proofs.Common.{◌≡◌, ℕ, List, Option, Some, None, IfSome, Ok, Err, subst}
use Rattle.c2_base.specs.declared.media.Found.{Found}
use Rattle.c2_base.specs.declared.media.MediaError.{MediaError}
use Rattle.c2_spec.specs.Container.{IsLocated}
use Rattle.c2_spec.specs.Located.{Located, refused, refusal, as_located}
use Rattle.c2_spec.specs.declared.reason.Reason.{Reason}
use Rattle.c2_container.specs.Contained.{IsSaid}
use Rattle.c2_container.specs.declared.types.Contained.{Contained}

-- a refusal that is as_located of a file is what the file is as a container
pub said_refused : (file : List ℕ) (e : MediaError) (reason : Reason) (number : ℕ) → IsSaid file (Err e)
    → refusal e ≡ Some (refused reason number) → IsLocated file (refused reason number)
said_refused file e reason number h is = subst (λ (o : Option Located). IfSome o (IsLocated file)) is h.located

-- a file whose container was read isn't refused
pub unrefused : (file : List ℕ) (c : Contained) (reason : Reason) (number : ℕ) → IsSaid file (Ok c)
    → IsLocated file (refused reason number) → ⊥
unrefused file c reason number h k = by c.found (h.only (refused reason number) k)
  where
    by : (o : Option Found) → IfSome (as_located (Ok o)) (λ (l : Located). l ≡ refused reason number) → ⊥
    by None bad = cc (bad)
    by (Some f) bad = cc (bad)
