use Rattle.std.proofs.Common.{rules}
use Rattle.c2_judge.proofs.RowSteps.{adds_new}
use Rattle.c2_judge.proofs.file.add_row.Goals as goal

pub returns-in_ok-insert : goal.returns-in_ok-insert
returns-in_ok-insert c =
    adds_new c.args.verdicts.now c.insert.new.self c.args.row (search rules) (λ id. c.in_ok-insert.ensures.updates.0 id)
