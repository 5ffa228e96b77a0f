use Rattle.c2_compare_spec.proofs.TheLaws.{each_reached_manifest_corresponds_active, each_reached_manifest_corresponds_back, each_reached_manifest_corresponds_forth, each_reached_manifest_corresponds_redacted}
use Rattle.c2_compare_spec.proofs.laws.each_reached_manifest_corresponds.Goals as goal

pub returns-clause-active : goal.returns-clause-active
returns-clause-active c = each_reached_manifest_corresponds_active

pub returns-clause-forth : goal.returns-clause-forth
returns-clause-forth c = each_reached_manifest_corresponds_forth

pub returns-clause-back : goal.returns-clause-back
returns-clause-back c = each_reached_manifest_corresponds_back

pub returns-clause-redacted : goal.returns-clause-redacted
returns-clause-redacted c = each_reached_manifest_corresponds_redacted
