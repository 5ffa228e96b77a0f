use Rattle.std.proofs.Common.{sym, subst}
use Rattle.std.specs.Prelude.{Err}
use Rattle.c2_build_refusals.specs.Kinds.{IsReadCause, WithoutFault}
use Rattle.c2_build_refusals.specs.Stages.{IsMediaStage}
use Rattle.c2_build_refusals.specs.declared.error.BuildError.{BuildError}
use Rattle.c2_build_base.proofs.Opened.{located_cause, located_refused}
use Rattle.c2_build_base.proofs.media.open_media.Goals as goal

-- a file that isn't refused
pub returns-in-Ok-clause-reads : goal.returns-in-Ok-clause-reads
returns-in-Ok-clause-reads g c = record { stays = c.in-Ok.ensures.stays; quiet = c.in-Ok.ensures.count; cause = tt }

-- one that is, or nothing is said of it
pub returns-in-Err-clause-refused : goal.returns-in-Err-clause-refused
returns-in-Err-clause-refused g c =
    λ file known. subst (λ (e : BuildError). WithoutFault e (IsMediaStage file (Err e))) (sym c.media_error.ensures) (located_refused file c.in-Err.error (c.in-Err.ensures.said file known))

pub returns-in-Err-clause-reads : goal.returns-in-Err-clause-reads
returns-in-Err-clause-reads g c =
    record
    { stays = c.in-Err.ensures.stays; quiet = tt; cause = subst (IsReadCause _ _) (sym c.media_error.ensures) (located_cause _ _ _ c.in-Err.error c.in-Err.ensures.cause) }
