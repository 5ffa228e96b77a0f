use Rattle.std.proofs.Common.{◌≡◌, ◌++◌, drop, map, string_bytes}
use Rattle.c2_spec.specs.Judges.Panel.{panel_says}
use Rattle.c2_cmd_reading.specs.Outcomes.{verdict_lines}
use Rattle.c2_cmd_reading.specs.Reading.{HasAskedBefore, questions_in}
use Rattle.c2_cmd_reading.proofs.questions.ask_all.Given as goal

-- so far the text has the lines of the manifests passed, and the panel was asked their questions
abbrev pub invariant-loop-one : goal.invariant-loop-one
invariant-loop-one g l =
    let said = panel_says (map (λ j. (goal.Judge-dyn g (j.vtable, j.value)).says j.value) l.initial.judges.items) in
    record {
      text : verdict_lines said l.asked ≡ string_bytes l.text ++ verdict_lines said (drop l.one-index l.asked);
      asked : HasAskedBefore (λ j. (goal.Judge-dyn g (j.vtable, j.value)).says j.value) (λ j. (goal.Judge-dyn g (j.vtable, j.value)).asked_times j.value) (λ j. (goal.Judge-dyn g (j.vtable, j.value)).judge_faults j.value)
          (questions_in l.asked) (questions_in (drop l.one-index l.asked)) l.initial.judges l.judges;
    }
