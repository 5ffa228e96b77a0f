use Rattle.std.proofs.Common.{arith}
use Rattle.c2_judge.proofs.Lists.{MovedAt-map-set, kept, kept_on_ok, rose_on_err, said_on_ok}
use Rattle.c2_spec.specs.Judges.Panel.{Counted}
use Rattle.c2_judge.proofs.panel.ask_at.Goals as goal

pub returns-clause-asks : goal.returns-clause-asks
returns-clause-asks g c =
    let before = c.args.judges.now.items in
    let judge = c.index_mut.result.now in
    let at = c.index_mut.ensures.value in
    let one = c.ask_one.ensures in
    record {
      same = kept _ before c.args.i judge _ at one.same;
      answer = said_on_ok _ _ before c.args.i judge c.args.q.now (omega arith) at one.answer;
      counted = MovedAt-map-set Counted _ before c.args.i judge _ (omega arith) at one.counted;
      ok = kept_on_ok _ _ before c.args.i judge _ at one.ok;
      cause = rose_on_err _ _ before c.args.i judge _ (omega arith) at one.cause;
    }
