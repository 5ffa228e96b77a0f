use Rattle.std.proofs.Common.{IfOk, List, ℕ, arith, inr, map, refl, sym, subst, ◌∙◌}
use Rattle.c2_base.specs.ReadAll.{HasReason}
use Rattle.c2_base.specs.declared.limits.TheConstants.{MAX_STORE_LEN}
use Rattle.c2_spec.specs.Judges.Panel.{panel_says}
use Rattle.c2_calls_spec.specs.Asks.{AsksKnown}
use Rattle.c2_calls_spec.proofs.PanelLemmas.{hears_early, hears_nobody, hears_same}
use Rattle.c2_opening.specs.declared.error.ValidateError.TheVariants.{ReadFault, NoMemory}
use Rattle.c2_validate.specs.Checked.{validate_heard}
use Rattle.c2_validate.specs.External.{IsListAnswered, ListAsks}
use Rattle.c2_calls_spec.proofs.SourceLemmas.{reads_nothing}
use Rattle.c2_sidecar.proofs.Beside.{long_unasked, reads_first, reads_last}
use Rattle.c2_sidecar.proofs.checking.check_read.Goals as goal

-- the store was read
pub returns-clause-panel : goal.returns-clause-panel
returns-clause-panel g c =
    hears_same _ _ _ validate_heard (AsksKnown (g.T.Source.known c.args.store.now) (ListAsks g.H.Hashing.digest_of))
    (ListAsks g.H.Hashing.digest_of c.as_slice.result.now) c.args.judges.now c.check_external.new.judges
    c.check_external.result
    (λ qs asks. subst (λ (x : List ℕ). ListAsks g.H.Hashing.digest_of x (panel_says (map (λ j. (goal.Judge-dyn g (j.vtable, j.value)).says j.value) c.args.judges.now.items)) qs) (sym (c.as_slice.ensures.value ∙ c.in-Ok.ensures.bytes asks.0 asks.1)) asks.2)
    c.check_external.ensures.panel

pub returns-clause-answer : goal.returns-clause-answer
returns-clause-answer g c = λ file known bytes told.
    let said = panel_says (map (λ j. (goal.Judge-dyn g (j.vtable, j.value)).says j.value) c.args.judges.now.items) in
    subst
    (λ (x : List ℕ). IfOk c.check_external.result (IsListAnswered g.H.Hashing.digest_of said c.args.container.now x file))
    (c.as_slice.ensures.value ∙ c.in-Ok.ensures.bytes bytes told) (c.check_external.ensures.answer file known)

pub returns-clause-source : goal.returns-clause-source
returns-clause-source g c =
    reads_last (g.T.Source.faults c.args.store.now) (g.T.Source.faults c.read_all.new.source) c.args.source.now
    c.check_external.new.source c.check_external.result c.check_external.ensures.reads

pub returns-clause-store : goal.returns-clause-store
returns-clause-store g c =
    reads_first (g.S.Source.faults c.args.source.now) (g.S.Source.faults c.check_external.new.source) c.args.store.now
    c.read_all.new.source c.check_external.result c.in-Ok.ensures.stays c.in-Ok.ensures.count
    c.check_external.ensures.reads.cause

-- it is too long
pub returns-in-Err-TooLong-clause-source : goal.returns-in-Err-TooLong-clause-source
returns-in-Err-TooLong-clause-source g c = reads_nothing _ _ _ _ _ _ tt

-- its source failed
pub returns-in-Err-ReadFault-clause-source : goal.returns-in-Err-ReadFault-clause-source
returns-in-Err-ReadFault-clause-source g c =
    reads_nothing _ _ _ _ _ _
    (inr (subst (HasReason g.T.Source.len g.T.Source.faults MAX_STORE_LEN c.args.store.now c.read_all.new.source) c.in-Err-ReadFault.field-0-is c.in-Err-ReadFault.ensures.reason))

-- memory ran out
pub returns-in-Err-NoMemory-clause-source : goal.returns-in-Err-NoMemory-clause-source
returns-in-Err-NoMemory-clause-source g c = reads_nothing _ _ _ _ _ _ tt

-- ---- what is asked without it

pub returns-in-Err-TooLong-clause-panel : goal.returns-in-Err-TooLong-clause-panel
returns-in-Err-TooLong-clause-panel g c =
    let said = panel_says (map (λ j. (goal.Judge-dyn g (j.vtable, j.value)).says j.value) c.args.judges.now.items) in
    let why = subst (HasReason g.T.Source.len g.T.Source.faults MAX_STORE_LEN c.args.store.now c.read_all.new.source) c.in-Err-TooLong.field-0-is c.in-Err-TooLong.ensures.reason in
    hears_nobody _ _ _ validate_heard _ c.args.judges.now _
    (λ qs a. long_unasked g.H.Hashing.digest_of said a.0 c.in-Err-TooLong.len qs (g.met.T.Source.known_len c.args.store.now a.0 a.1 ∙ sym why.0) (omega (arith, why.1, why.0)) a.2)

pub returns-in-Err-ReadFault-clause-panel : goal.returns-in-Err-ReadFault-clause-panel
returns-in-Err-ReadFault-clause-panel g c = hears_early _ _ _ validate_heard _ c.args.judges.now ReadFault refl

pub returns-in-Err-NoMemory-clause-panel : goal.returns-in-Err-NoMemory-clause-panel
returns-in-Err-NoMemory-clause-panel g c = hears_early _ _ _ validate_heard _ c.args.judges.now NoMemory refl
