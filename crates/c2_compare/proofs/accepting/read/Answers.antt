use Rattle.std.proofs.Common.{subst}
use Rattle.c2_opening.specs.Opened.{IsStoreRead}
use Rattle.c2_compare.proofs.Files.{unopened_read}
use Rattle.c2_compare.proofs.accepting.read.Goals as goal

-- there is a store of manifests
pub returns-in-Here-clause-read : goal.returns-in-Here-clause-read
returns-in-Here-clause-read c = subst (IsStoreRead c.args.media.now.found) c.in-Here.is c.in-Ok.ensures

-- a box or the store is refused
pub returns-in-Refused-clause-refused : goal.returns-in-Refused-clause-refused
returns-in-Refused-clause-refused c =
    λ file found. unopened_read file c.args.media.now c.in-Ok.found c.in-Refused.reason c.in-Refused.number c.in-Refused.is found c.in-Ok.ensures
