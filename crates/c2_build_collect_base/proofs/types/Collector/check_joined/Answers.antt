use Rattle.std.proofs.Common.{sym, ◌∙◌}
use Rattle.c2_collect_spec.specs.Collected.{collected_readings}
use Rattle.c2_build_collect_base.specs.Steps.{old_readings, readings_of}
use Rattle.c2_build_collect_base.proofs.Tests.{none_told, redaction_told, taken_told}
use Rattle.c2_build_collect_base.proofs.types.Collector.check_joined.Goals as goal

-- the label is taken
pub returns-then-has_label-clause-tested : goal.returns-then-has_label-clause-tested
returns-then-has_label-clause-tested g c = λ is_in reached.
    taken_told c.args.self.now.definition.now
    (collected_readings (old_readings c.args.ours.now) (readings_of c.args.theirs.now)) is_in c.label_taken.result
    (sym c.has_label.ensures ∙ c.if-has_label.true) c.label_taken.ensures.told

-- no redaction is refused
pub returns-in-Ok-None-clause-tested : goal.returns-in-Ok-None-clause-tested
returns-in-Ok-None-clause-tested g c = λ is_in reached.
    none_told c.args.self.now.definition.now (collected_readings (old_readings c.args.ours.now) (readings_of c.args.theirs.now)) is_in (sym c.has_label.ensures ∙ c.if-has_label.false) (sym (c.in-Ok-None.ensures is_in reached) ∙ c.in-Ok-None.field-0-is)

-- one is
pub returns-in-Ok-Some-clause-tested : goal.returns-in-Ok-Some-clause-tested
returns-in-Ok-Some-clause-tested g c = λ is_in reached.
    redaction_told c.args.self.now.definition.now (collected_readings (old_readings c.args.ours.now) (readings_of c.args.theirs.now)) is_in c.in-Ok-Some.refused (sym c.has_label.ensures ∙ c.if-has_label.false) (sym (c.in-Ok-Some.ensures is_in reached) ∙ c.in-Ok-Some.field-0-is)
