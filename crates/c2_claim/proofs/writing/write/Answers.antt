use Rattle.c2_spec.specs.Cbor.View.{view}
use Rattle.c2_claim.proofs.Written.{written_back}
use Rattle.c2_claim.proofs.writing.write.Goals as goal

pub returns-in-Ok-clause-again : goal.returns-in-Ok-clause-again
returns-in-Ok-clause-again c =
    written_back c.args.parts.now (view c.in_ok-item.item) c.in-Ok.bytes c.in_ok-item.ensures c.in-Ok.ensures.legal
    c.in-Ok.ensures.again
