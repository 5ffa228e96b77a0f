use Rattle.std.proofs.Common.{◌≡◌, ◌+◌, map, drop, vec_len}
use Rattle.c2_spec.specs.Judges.Panel.{verdicts, first_said, panel_size, MovedBelow, Counted}
use Rattle.c2_judge.proofs.panel.ask_panel.Given as goal

abbrev pub invariant-loop-i : goal.invariant-loop-i
invariant-loop-i g l =
    let said = map (λ j. (goal.Judge-dyn g (j.vtable, j.value)).says j.value) l.initial.judges.items in
    record {
      length : vec_len l.judges ≡ vec_len l.initial.judges;
      same : map (λ j. (goal.Judge-dyn g (j.vtable, j.value)).says j.value) l.judges.items ≡ said;
      answer : first_said (verdicts said l.q) ≡ first_said (drop l.i (verdicts said l.q));
      size : panel_size (verdicts said l.q) ≡ l.i + panel_size (drop l.i (verdicts said l.q));
      asked : MovedBelow Counted l.i (map (λ j. (goal.Judge-dyn g (j.vtable, j.value)).asked_times j.value) l.initial.judges.items) (map (λ j. (goal.Judge-dyn g (j.vtable, j.value)).asked_times j.value) l.judges.items);
      faults : map (λ j. (goal.Judge-dyn g (j.vtable, j.value)).judge_faults j.value) l.judges.items ≡ map (λ j. (goal.Judge-dyn g (j.vtable, j.value)).judge_faults j.value) l.initial.judges.items;
    }
