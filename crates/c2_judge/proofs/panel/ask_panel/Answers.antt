use Rattle.std.proofs.Common.{arith, ap, ◌∙◌, ◌+◌}
use Rattle.std.proofs.lemmas.List.{length-map}
use Rattle.std.proofs.lemmas.Result.{err_from_is_err_and}
use Rattle.c2_spec.specs.Judges.Panel.{verdicts, Counted}
use Rattle.c2_judge.proofs.PanelSteps.{answer_found, size_found, answer_all, size_all, answer_more, size_more, MovedBelow-more, failed_at, SomeRose-at, counted_none_fell, same_none_fell, failing_none_fell}
use Rattle.c2_judge.proofs.panel.ask_panel.Goals as goal

pub returns-in_err-verdict-clause-asks : goal.returns-in_err-verdict-clause-asks
returns-in_err-verdict-clause-asks g c =
    let so_far = c.loop-i.invariant in
    let one = c.in_err-verdict.ensures.asks in
    let same = ap (λ f. verdicts f c.args.q.now) so_far.same in
    let p = err_from_is_err_and c.from_residual.result c.from_residual.ensures.1 in
    rw p.1
    (record {
      answer = tt;
      asked = tt;
      failed =
          (c.loop-i.i, failed_at c.loop-i.i _ _ _ _ _ _ _ _ same (simp length-map (omega arith)) so_far.size so_far.asked one.counted so_far.faults one.cause);
      cause = SomeRose-at c.loop-i.i _ _ _ (simp length-map (omega arith)) so_far.faults one.cause;
    })

pub returns-in_err-verdict-clause-leaves : goal.returns-in_err-verdict-clause-leaves
returns-in_err-verdict-clause-leaves g c =
    let so_far = c.loop-i.invariant in
    let one = c.in_err-verdict.ensures.asks in
    let p = err_from_is_err_and c.from_residual.result c.from_residual.ensures.1 in
    rw p.1
    (record {
      same = one.same ∙ so_far.same;
      asked_later =
          counted_none_fell (c.loop-i.i + 1) _ _ (MovedBelow-more Counted c.loop-i.i _ _ _ so_far.asked one.counted);
      faults_later = failing_none_fell c.loop-i.i _ _ _ so_far.faults one.cause;
      ok = tt;
    })

pub returns-in_default : goal.returns-in_default
returns-in_default g c =
    let so_far = c.loop-i.invariant in
    let one = c.in_ok-verdict.ensures.asks in
    let same = ap (λ f. verdicts f c.args.q.now) so_far.same in
    let asked = MovedBelow-more Counted c.loop-i.i _ _ _ so_far.asked one.counted in
    record {
      len = c.ask_at.ensures.len ∙ so_far.length;
      asks = record {
        answer = answer_found _ _ c.loop-i.i _ same one.answer so_far.answer c.in_default.not-Silent;
        asked = rw (size_found _ _ c.loop-i.i _ same one.answer so_far.size c.in_default.not-Silent) asked;
        failed = tt;
        cause = tt;
      };
      leaves = record {
        same = one.same ∙ so_far.same;
        asked_later = counted_none_fell (c.loop-i.i + 1) _ _ asked;
        faults_later = same_none_fell _ _ (one.ok ∙ so_far.faults);
        ok = one.ok ∙ so_far.faults;
      };
    }

pub loop-i-preserved : goal.loop-i-preserved
loop-i-preserved g c =
    let so_far = c.loop-i.invariant in
    let one = c.in_ok-verdict.ensures.asks in
    let same = ap (λ f. verdicts f c.args.q.now) so_far.same in
    record {
      length = c.ask_at.ensures.len ∙ so_far.length;
      same = one.same ∙ so_far.same;
      answer = answer_more _ _ c.loop-i.i _ same one.answer so_far.answer c.in-Silent.is;
      size = size_more _ _ c.loop-i.i _ same one.answer so_far.size c.in-Silent.is;
      asked = MovedBelow-more Counted c.loop-i.i _ _ _ so_far.asked one.counted;
      faults = one.ok ∙ so_far.faults;
    }

pub returns-clause-asks : goal.returns-clause-asks
returns-clause-asks g c =
    let so_far = c.loop-i.invariant in
    record {
      answer = answer_all _ c.loop-i.i (simp length-map (omega arith)) so_far.answer;
      asked = rw (size_all _ c.loop-i.i (simp length-map (omega arith)) so_far.size) so_far.asked;
      failed = tt;
      cause = tt;
    }

pub returns-clause-leaves : goal.returns-clause-leaves
returns-clause-leaves g c =
    let so_far = c.loop-i.invariant in
    record {
      same = so_far.same;
      asked_later = counted_none_fell c.loop-i.i _ _ so_far.asked;
      faults_later = same_none_fell _ _ so_far.faults;
      ok = so_far.faults;
    }
