use Rattle.std.proofs.Common.{sym, subst}
use Rattle.c2_opening.specs.Opened.{IsWithin}
use Rattle.c2_build_refusals.specs.Kinds.{WithoutFault}
use Rattle.c2_build_refusals.specs.declared.error.BuildError.{BuildError}
use Rattle.c2_build_refusals.proofs.Outside.{fault_said}
use Rattle.c2_build_collect_base.specs.Steps.{IsOpeningError, IsOtherCause}
use Rattle.c2_build_collect_base.proofs.Opened.{absent_other, found_cause, found_there, refused_other}
use Rattle.c2_build_collect_base.proofs.other.open_other.Goals as goal

-- the source failed, or memory ran out
pub returns-in-Err-clause-refused : goal.returns-in-Err-clause-refused
returns-in-Err-clause-refused g c =
    λ file known. subst (λ (e : BuildError). WithoutFault e (IsOpeningError file e)) (sym c.fault.ensures) (fault_said _ c.in-Err.error)

pub returns-in-Err-clause-reads : goal.returns-in-Err-clause-reads
returns-in-Err-clause-reads g c = record {
  stays = c.in-Err.ensures.stays;
  quiet = tt;
  cause =
      subst
      (λ (e : BuildError). IsOtherCause (g.D.Source.faults c.args.other.now) (g.D.Source.faults c.find_store.new.source) e)
      (sym c.fault.ensures) (found_cause _ _ c.in-Err.error c.in-Err.ensures.cause);
}

-- a file with a store
pub returns-in-Here-clause-found : goal.returns-in-Here-clause-found
returns-in-Here-clause-found g c =
    λ file known. found_there file c.in-Ok.opened c.in-Here.media c.in-Here.is (c.in-Ok.ensures.found file known)

pub returns-in-Here-clause-inside : goal.returns-in-Here-clause-inside
returns-in-Here-clause-inside g c =
    (subst (IsWithin (g.D.Source.len c.args.other.now)) c.in-Here.is c.in-Ok.ensures.within).2

pub returns-in-Here-clause-reads : goal.returns-in-Here-clause-reads
returns-in-Here-clause-reads g c = record { stays = c.in-Ok.ensures.stays; quiet = c.in-Ok.ensures.count; cause = tt }

-- one without
pub returns-in-NoStore-clause-refused : goal.returns-in-NoStore-clause-refused
returns-in-NoStore-clause-refused g c =
    λ file known. absent_other file c.in-Ok.opened _ c.in-NoStore.is (c.in-Ok.ensures.found file known)

pub returns-in-NoStore-clause-reads : goal.returns-in-NoStore-clause-reads
returns-in-NoStore-clause-reads g c =
    record { stays = c.in-Ok.ensures.stays; quiet = tt; cause = c.in-Ok.ensures.count }

-- a refused file
pub returns-clause-refused : goal.returns-clause-refused
returns-clause-refused g c =
    λ file known. refused_other file c.in-Ok.opened c.in-Refused.reason c.in-Refused.number c.in-Refused.is (c.in-Ok.ensures.found file known)

pub returns-clause-reads : goal.returns-clause-reads
returns-clause-reads g c = record { stays = c.in-Ok.ensures.stays; quiet = tt; cause = c.in-Ok.ensures.count }
