use Rattle.c2_validate.proofs.TheLaws.{a_store_answers_for_its_file_asks}
use Rattle.std.proofs.Common.{map, refl, subst}
use Rattle.c2_spec.specs.Judges.Panel.{panel_says}
use Rattle.c2_calls_spec.proofs.PanelLemmas.{hears_error, hears_later}
use Rattle.c2_validate.specs.Checked.{HasTextSize, IsCheckedOver, validate_heard}
use Rattle.c2_validate.specs.declared.checking.Checked.TheVariants as checked
use Rattle.c2_compare.specs.Accepting.{ended_heard}
use Rattle.c2_compare.specs.declared.accepting.Unaccepted.TheVariants.{Failed}
use Rattle.c2_compare.proofs.Files.{side_of, unaccepted_failing}
use Rattle.c2_compare.proofs.accepting.accept.Goals as goal

-- the check has no answer
pub returns-in-Err-clause-reads : goal.returns-in-Err-clause-reads
returns-in-Err-clause-reads g c =
    record { stays = c.in-Err.ensures.reads.stays; quiet = tt; cause = c.in-Err.ensures.reads.cause }

pub returns-in-Err-clause-panel : goal.returns-in-Err-clause-panel
returns-in-Err-clause-panel g c =
    let said = panel_says (map (λ j. (goal.Judge-dyn g (j.vtable, j.value)).says j.value) c.args.judges.now.items) in
    hears_error _ _ _ validate_heard ended_heard _ _ c.args.judges.now c.check.new.judges c.in-Err.error (Failed c.in-Err.error) refl
    (λ qs k. a_store_answers_for_its_file_asks g.H.Hashing.digest_of said k.file c.args.store.now qs (c.requires.opened k.file k.is_file) k.asks) c.in-Err.ensures.panel

-- all rules hold
pub returns-in-Valid-clause-side : goal.returns-in-Valid-clause-side
returns-in-Valid-clause-side g c = λ file known.
    let said = panel_says (map (λ j. (goal.Judge-dyn g (j.vtable, j.value)).says j.value) c.args.judges.now.items) in
    let hash = g.H.Hashing.digest_of in
    let store = c.args.store.now in
    let valid = checked.Valid c.in-Valid.summary c.in-Valid.text in
    let from = c.requires.opened file known in
    let over : IsCheckedOver hash said store file valid =
    subst (IsCheckedOver hash said store file) c.in-Valid.is (c.in-Ok.ensures.answer file known) in
    side_of hash said file store c.in-Valid.summary c.in-Valid.text from
    (c.a_store_answers_for_its_file.ensures.answer hash said file store valid (g.met.S.Source.known_bytes c.args.source.now file known) from over)
    over

pub returns-in-Valid-clause-size : goal.returns-in-Valid-clause-size
returns-in-Valid-clause-size g c =
    subst (HasTextSize (g.S.Source.len c.args.source.now)) c.in-Valid.is c.in-Ok.ensures.size

pub returns-in-Valid-clause-reads : goal.returns-in-Valid-clause-reads
returns-in-Valid-clause-reads g c =
    record { stays = c.in-Ok.ensures.reads.stays; quiet = c.in-Ok.ensures.reads.quiet; cause = tt }

pub returns-in-Valid-clause-panel : goal.returns-in-Valid-clause-panel
returns-in-Valid-clause-panel g c =
    let said = panel_says (map (λ j. (goal.Judge-dyn g (j.vtable, j.value)).says j.value) c.args.judges.now.items) in
    hears_later _ _ _ validate_heard ended_heard _ _ c.args.judges.now c.check.new.judges c.in-Ok.checked _ tt
    (λ qs k. a_store_answers_for_its_file_asks g.H.Hashing.digest_of said k.file c.args.store.now qs (c.requires.opened k.file k.is_file) k.asks) c.in-Ok.ensures.panel

-- a rule fails
pub returns-in-Failing-clause-refused : goal.returns-in-Failing-clause-refused
returns-in-Failing-clause-refused g c = λ file known.
    let said = panel_says (map (λ j. (goal.Judge-dyn g (j.vtable, j.value)).says j.value) c.args.judges.now.items) in
    let hash = g.H.Hashing.digest_of in
    let store = c.args.store.now in
    let failing = checked.Failing c.in-Failing.failing in
    let over : IsCheckedOver hash said store file failing =
    subst (IsCheckedOver hash said store file) c.in-Failing.is (c.in-Ok.ensures.answer file known) in
    unaccepted_failing hash said file c.in-Failing.failing
    (c.a_store_answers_for_its_file.ensures.answer hash said file store failing (g.met.S.Source.known_bytes c.args.source.now file known) (c.requires.opened file known) over)

pub returns-in-Failing-clause-reads : goal.returns-in-Failing-clause-reads
returns-in-Failing-clause-reads g c =
    record { stays = c.in-Ok.ensures.reads.stays; quiet = tt; cause = c.in-Ok.ensures.reads.quiet }

pub returns-in-Failing-clause-panel : goal.returns-in-Failing-clause-panel
returns-in-Failing-clause-panel g c =
    let said = panel_says (map (λ j. (goal.Judge-dyn g (j.vtable, j.value)).says j.value) c.args.judges.now.items) in
    hears_later _ _ _ validate_heard ended_heard _ _ c.args.judges.now c.check.new.judges c.in-Ok.checked _ (λ is. cc (is))
    (λ qs k. a_store_answers_for_its_file_asks g.H.Hashing.digest_of said k.file c.args.store.now qs (c.requires.opened k.file k.is_file) k.asks) c.in-Ok.ensures.panel
