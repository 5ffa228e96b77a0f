use Rattle.std.proofs.Common.{map, refl, sym, subst}
use Rattle.c2_spec.specs.Judges.Panel.{panel_says}
use Rattle.c2_validate.specs.Checked.{IsCheckedOver}
use Rattle.c2_validate.specs.declared.checking.Checked.TheVariants as checked
use Rattle.c2_build_refusals.specs.Kinds.{IsAskCause, WithoutFault}
use Rattle.c2_build_base.specs.Grounds.{IsCheckRefusal}
use Rattle.c2_build_refusals.specs.declared.error.BuildError.{BuildError}
use Rattle.c2_build_base.proofs.Checks.{fault_cause, hears_fault, hears_valid}
use Rattle.c2_build_refusals.proofs.Outside.{fault_said}
use Rattle.c2_build_base.proofs.ground.check_parent.Goals as goal

-- the check has no answer
pub returns-in-Err-clause-refused : goal.returns-in-Err-clause-refused
returns-in-Err-clause-refused g c = λ file known from.
    let said = panel_says (map (λ j. (goal.Judge-dyn g (j.vtable, j.value)).says j.value) c.args.judges.now.items) in
    subst (λ (e : BuildError). WithoutFault e (IsCheckRefusal g.H.Hashing.digest_of said file e)) (sym c.fault.ensures) (fault_said _ c.in-Err.error)

pub returns-in-Err-clause-reads : goal.returns-in-Err-clause-reads
returns-in-Err-clause-reads g c = record {
  stays = c.in-Err.ensures.reads.stays;
  quiet = tt;
  cause =
      subst
      (λ (e : BuildError). IsAskCause (g.A.Source.faults c.args.media.now) (g.A.Source.faults c.check.new.source) e)
      (sym c.fault.ensures) (fault_cause _ _ c.in-Err.error c.in-Err.ensures.reads.cause);
}

pub returns-in-Err-clause-panel : goal.returns-in-Err-clause-panel
returns-in-Err-clause-panel g c =
    hears_fault c.args.judges.now c.check.new.judges c.in-Err.error c.fault.result c.fault.ensures
    c.in-Err.ensures.panel

-- no rule fails
pub returns-in-Valid-clause-checked : goal.returns-in-Valid-clause-checked
returns-in-Valid-clause-checked g c = λ file known from.
    let said = panel_says (map (λ j. (goal.Judge-dyn g (j.vtable, j.value)).says j.value) c.args.judges.now.items) in
    let hash = g.H.Hashing.digest_of in
    let store = c.args.store.now in
    let valid = checked.Valid c.in-Valid.field-0 c.in-Valid.field-1 in
    let over : IsCheckedOver hash said store file valid =
    subst (IsCheckedOver hash said store file) c.in-Valid.is (c.in-Ok.ensures.answer file known) in
    (c.in-Valid.field-0, (c.a_store_answers_for_its_file.ensures.answer hash said file store valid (g.met.A.Source.known_bytes c.args.media.now file known) from over).is)

pub returns-in-Valid-clause-reads : goal.returns-in-Valid-clause-reads
returns-in-Valid-clause-reads g c =
    record { stays = c.in-Ok.ensures.reads.stays; quiet = c.in-Ok.ensures.reads.quiet; cause = tt }

pub returns-in-Valid-clause-panel : goal.returns-in-Valid-clause-panel
returns-in-Valid-clause-panel g c =
    hears_valid c.args.judges.now c.check.new.judges c.in-Ok.checked _ tt c.in-Ok.ensures.panel

-- one does
pub returns-clause-refused : goal.returns-clause-refused
returns-clause-refused g c = λ file known from.
    let said = panel_says (map (λ j. (goal.Judge-dyn g (j.vtable, j.value)).says j.value) c.args.judges.now.items) in
    let hash = g.H.Hashing.digest_of in
    let store = c.args.store.now in
    let failing = checked.Failing c.in-Failing.failing in
    let over : IsCheckedOver hash said store file failing =
    subst (IsCheckedOver hash said store file) c.in-Failing.is (c.in-Ok.ensures.answer file known) in
    (c.in-Failing.failing, (c.a_store_answers_for_its_file.ensures.answer hash said file store failing (g.met.A.Source.known_bytes c.args.media.now file known) from over).is, refl)

pub returns-clause-reads : goal.returns-clause-reads
returns-clause-reads g c =
    record { stays = c.in-Ok.ensures.reads.stays; quiet = tt; cause = c.in-Ok.ensures.reads.quiet }

pub returns-clause-panel : goal.returns-clause-panel
returns-clause-panel g c = hears_valid c.args.judges.now c.check.new.judges c.in-Ok.checked _ tt c.in-Ok.ensures.panel
