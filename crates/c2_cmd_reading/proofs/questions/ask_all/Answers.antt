use Rattle.std.proofs.Common.{◌+◌, ◌++◌, ℕ, List, ap, sym, drop, map, string_bytes}
use Rattle.std.proofs.lemmas.List.{drop_all}
use Rattle.std.specs.Option.{option_to_list}
use Rattle.c2_spec.specs.Judges.Panel.{panel_says}
use Rattle.c2_cmd_reading.specs.Outcomes.{verdict_lines}
use Rattle.c2_cmd_reading.specs.Reading.{questions_in}
use Rattle.c2_cmd_reading.proofs.Lines.{asked_all, asked_ended, asked_first, asked_more, lines_more, questions_on}
use Rattle.c2_cmd_reading.proofs.questions.ask_all.Goals as goal

-- before the first manifest
pub loop-one-init : goal.loop-one-init
loop-one-init g c =
    let said = panel_says (map (λ j. (goal.Judge-dyn g (j.vtable, j.value)).says j.value) c.args.judges.now.items) in
    record {
      text = ap (λ (l : List ℕ). l ++ verdict_lines said c.args.asked.now) (sym c.new-text.ensures.bytes);
      asked = asked_first _ _ _ (questions_in c.args.asked.now) c.args.judges.now;
    }

-- after a fault at a manifest the panel was asked the questions before it, and its own as the fault allows
pub returns-in-Err-clause-panel : goal.returns-in-Err-clause-panel
returns-in-Err-clause-panel g c =
    let one = c.one-item.result in
    asked_ended _ _ _ (questions_in c.args.asked.now) (option_to_list one.question) (questions_in (drop c.loop-one.one-index c.args.asked.now)) (questions_in (drop (c.loop-one.one-index + 1) c.args.asked.now)) c.args.judges.now c.loop-one.judges c.push_line.new.judges c.in-Err.fault
    (questions_on c.args.asked.now c.loop-one.one-index one c.loop-one-test.true c.one-item.is) c.in-Err.ensures.fault c.loop-one.invariant.asked c.in-Err.ensures.panel

-- with the line of one more manifest, the text and the questions have gone on by it
pub loop-one-preserved : goal.loop-one-preserved
loop-one-preserved g c =
    let one = c.one-item.result in
    let same = c.loop-one.invariant.asked.heard.stays.same in
    record {
      text =
          lines_more _ _ c.args.asked.now c.loop-one.one-index one (string_bytes c.loop-one.text)
          (string_bytes c.push_line.new.out) same c.loop-one-test.true c.one-item.is c.loop-one.invariant.text
          c.in-Ok.ensures.line;
      asked = asked_more _ _ _ (questions_in c.args.asked.now) (option_to_list one.question) (questions_in (drop c.loop-one.one-index c.args.asked.now)) (questions_in (drop (c.loop-one.one-index + 1) c.args.asked.now)) c.args.judges.now c.loop-one.judges c.push_line.new.judges tt
          (questions_on c.args.asked.now c.loop-one.one-index one c.loop-one-test.true c.one-item.is) c.loop-one.invariant.asked c.in-Ok.ensures.panel;
    }

-- all were asked
pub returns-clause-panel : goal.returns-clause-panel
returns-clause-panel g c =
    asked_all _ _ _ (questions_in c.args.asked.now) (questions_in (drop c.loop-one.one-index c.args.asked.now))
    c.args.judges.now c.loop-one.judges _
    (ap questions_in (drop_all c.loop-one.one-index c.args.asked.now c.loop-one-test.false))
    c.loop-one.invariant.asked
