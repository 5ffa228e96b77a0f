use Rattle.std.proofs.Common.{subst}
use Rattle.c2_opening.specs.Opened.{IsFound, IsWithin}
use Rattle.c2_compare.proofs.Files.{unopened_none, unopened_refused}
use Rattle.c2_compare.proofs.accepting.find.Goals as goal

-- the source failed, or memory ran out
pub returns-in-Err-clause-reads : goal.returns-in-Err-clause-reads
returns-in-Err-clause-reads g c = record { stays = c.in-Err.ensures.stays; quiet = tt; cause = c.in-Err.ensures.cause }

-- there is a store
pub returns-in-Here-clause-found : goal.returns-in-Here-clause-found
returns-in-Here-clause-found g c = λ file known. subst (IsFound file) c.in-Here.is (c.in-Ok.ensures.found file known)

pub returns-in-Here-clause-inside : goal.returns-in-Here-clause-inside
returns-in-Here-clause-inside g c =
    (subst (IsWithin (g.S.Source.len c.args.source.now)) c.in-Here.is c.in-Ok.ensures.within).2

pub returns-in-Here-clause-reads : goal.returns-in-Here-clause-reads
returns-in-Here-clause-reads g c = record { stays = c.in-Ok.ensures.stays; quiet = c.in-Ok.ensures.count; cause = tt }

-- there is none
pub returns-in-NoStore-clause-refused : goal.returns-in-NoStore-clause-refused
returns-in-NoStore-clause-refused g c =
    λ file known. unopened_none file c.in-Ok.found _ c.in-NoStore.is (c.in-Ok.ensures.found file known)

pub returns-in-NoStore-clause-reads : goal.returns-in-NoStore-clause-reads
returns-in-NoStore-clause-reads g c =
    record { stays = c.in-Ok.ensures.stays; quiet = tt; cause = c.in-Ok.ensures.count }

-- the container is refused
pub returns-clause-refused : goal.returns-clause-refused
returns-clause-refused g c =
    λ file known. unopened_refused file c.in-Ok.found c.in-Refused.reason c.in-Refused.number c.in-Refused.is (c.in-Ok.ensures.found file known)
