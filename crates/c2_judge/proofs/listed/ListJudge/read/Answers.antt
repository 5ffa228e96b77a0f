use Rattle.std.proofs.lemmas.Result.{err_from_is_err_and}
use Rattle.c2_judge.proofs.OneReading.{says_file, reason_of, only_these, only_memory, none_said, only_place}
use Rattle.c2_judge.proofs.listed.ListJudge.read.Goals as goal

pub returns-in_err-verdicts-clause-only_rows : goal.returns-in_err-verdicts-clause-only_rows
returns-in_err-verdicts-clause-only_rows c rows has fits =
    let file = c.args.bytes.now in
    let error = c.in_err-verdicts.field-0.0 in
    let p = err_from_is_err_and c.from_residual.result c.from_residual.ensures.1 in
    rw (p.1, p.2) (only_memory file error (reason_of file error c.in_err-verdicts.ensures fits) rows has fits)

pub returns-in_err-verdicts-clause-only_bad : goal.returns-in_err-verdicts-clause-only_bad
returns-in_err-verdicts-clause-only_bad c n bad fits =
    let file = c.args.bytes.now in
    let error = c.in_err-verdicts.field-0.0 in
    let p = err_from_is_err_and c.from_residual.result c.from_residual.ensures.1 in
    rw (p.1, p.2) (only_place file error (reason_of file error c.in_err-verdicts.ensures fits) n bad fits)

pub returns-clause-only_rows : goal.returns-clause-only_rows
returns-clause-only_rows c rows has fits q =
    let file = c.args.bytes.now in
    only_these file _ (says_file file c.in_ok-verdicts.verdicts c.in_ok-verdicts.ensures fits) rows has q

pub returns-clause-only_bad : goal.returns-clause-only_bad
returns-clause-only_bad c n bad fits =
    let file = c.args.bytes.now in
    none_said file _ (says_file file c.in_ok-verdicts.verdicts c.in_ok-verdicts.ensures fits) n bad
