use Rattle.std.proofs.Common.{sym}
use Rattle.c2_read_manifests.proofs.ParsingLemmas.{claim_is}
use Rattle.c2_read_manifests.proofs.reading.read_claim.Goals as goal

-- the bytes are read as what their reader answers, where memory sufficed
pub returns-in-Some : goal.returns-in-Some
returns-in-Some c =
    claim_is c.args.version c.args.bytes.now c.read-found.result c.in-Some.parsed c.read-found.ensures.holds
    c.read-found.ensures.only (sym c.in-Some.ensures)
