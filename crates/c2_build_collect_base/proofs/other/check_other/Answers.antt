use Rattle.std.proofs.Common.{map, refl, sym, subst}
use Rattle.c2_spec.specs.Judges.Panel.{panel_says}
use Rattle.c2_rules.specs.declared.answer.Answer.TheVariants as answer
use Rattle.c2_validate.specs.Checked.{IsCheckedOver}
use Rattle.c2_validate.specs.declared.checking.Checked.TheVariants as checked
use Rattle.c2_build_refusals.specs.Kinds.{WithoutFault}
use Rattle.c2_build_refusals.specs.declared.error.BuildError.{BuildError}
use Rattle.c2_build_refusals.proofs.Outside.{fault_said}
use Rattle.c2_build_base.proofs.Checks.{fault_cause, hears_fault, hears_valid}
use Rattle.c2_build_collect_base.specs.Grounds.{IsGroundCause}
use Rattle.c2_build_collect_base.specs.Steps.{IsOtherError}
use Rattle.c2_build_collect_base.proofs.Pair.{asks_ground}
use Rattle.c2_build_collect_base.proofs.other.check_other.Goals as goal

-- the check has no answer
pub returns-in-Err-clause-refused : goal.returns-in-Err-clause-refused
returns-in-Err-clause-refused g c = λ file known from.
    let said = panel_says (map (λ j. (goal.Judge-dyn g (j.vtable, j.value)).says j.value) c.args.judges.now.items) in
    subst (λ (e : BuildError). WithoutFault e (IsOtherError g.H.Hashing.digest_of said file e)) (sym c.fault.ensures) (fault_said _ c.in-Err.error)

pub returns-in-Err-clause-reads : goal.returns-in-Err-clause-reads
returns-in-Err-clause-reads g c = record {
  stays = c.in-Err.ensures.reads.stays;
  quiet = tt;
  cause = subst (λ (e : BuildError). IsGroundCause ⊥ (g.D.Source.faults c.args.other.now) (g.D.Source.faults c.check.new.source) e) (sym c.fault.ensures)
      (asks_ground ⊥ _ _ _ (fault_cause _ _ c.in-Err.error c.in-Err.ensures.reads.cause));
}

pub returns-in-Err-clause-panel : goal.returns-in-Err-clause-panel
returns-in-Err-clause-panel g c =
    hears_fault c.args.judges.now c.check.new.judges c.in-Err.error c.fault.result c.fault.ensures
    c.in-Err.ensures.panel

-- no rule fails
pub returns-in-Valid-clause-checked : goal.returns-in-Valid-clause-checked
returns-in-Valid-clause-checked g c = λ file known from.
    let said = panel_says (map (λ j. (goal.Judge-dyn g (j.vtable, j.value)).says j.value) c.args.judges.now.items) in
    let hash = g.H.Hashing.digest_of in
    let store = c.args.store.now in
    let valid = checked.Valid c.in-Valid.field-0 c.in-Valid.field-1 in
    let over : IsCheckedOver hash said store file valid =
    subst (IsCheckedOver hash said store file) c.in-Valid.is (c.in-Ok.ensures.answer file known) in
    (c.in-Valid.field-0, (c.a_store_answers_for_its_file.ensures.answer hash said file store valid (g.met.D.Source.known_bytes c.args.other.now file known) from over).is)

pub returns-in-Valid-clause-reads : goal.returns-in-Valid-clause-reads
returns-in-Valid-clause-reads g c =
    record { stays = c.in-Ok.ensures.reads.stays; quiet = c.in-Ok.ensures.reads.quiet; cause = tt }

pub returns-in-Valid-clause-panel : goal.returns-in-Valid-clause-panel
returns-in-Valid-clause-panel g c =
    hears_valid c.args.judges.now c.check.new.judges c.in-Ok.checked _ tt c.in-Ok.ensures.panel

-- one does
pub returns-clause-refused : goal.returns-clause-refused
returns-clause-refused g c = λ file known from.
    let said = panel_says (map (λ j. (goal.Judge-dyn g (j.vtable, j.value)).says j.value) c.args.judges.now.items) in
    let hash = g.H.Hashing.digest_of in
    let store = c.args.store.now in
    let failing = checked.Failing c.in-Failing.failing in
    let over : IsCheckedOver hash said store file failing =
    subst (IsCheckedOver hash said store file) c.in-Failing.is (c.in-Ok.ensures.answer file known) in
    (answer.Failing c.in-Failing.failing, (c.a_store_answers_for_its_file.ensures.answer hash said file store failing (g.met.D.Source.known_bytes c.args.other.now file known) from over).is, refl, refl)

pub returns-clause-reads : goal.returns-clause-reads
returns-clause-reads g c =
    record { stays = c.in-Ok.ensures.reads.stays; quiet = tt; cause = c.in-Ok.ensures.reads.quiet }

pub returns-clause-panel : goal.returns-clause-panel
returns-clause-panel g c = hears_valid c.args.judges.now c.check.new.judges c.in-Ok.checked _ tt c.in-Ok.ensures.panel
