use Rattle.std.proofs.lemmas.List.{take_rest}
use Rattle.c2_jumbf.proofs.HeadLaws.{public_head}
use Rattle.c2_jumbf.proofs.front.head.Goals as goal

pub returns-in-Ok-clause-ok : goal.returns-in-Ok-clause-ok
returns-in-Ok-clause-ok c =
    public_head c.args.bytes.now _ c.args.at c.in-Ok.front c.to_be_bytes.ensures c.in-Ok.ensures.ok

pub returns-in-Err-clause-err : goal.returns-in-Err-clause-err
returns-in-Err-clause-err c = rw take_rest at c.in-Err.ensures.err
