use Rattle.std.proofs.Common.{refl, ◌∙◌}
use Rattle.c2_calls_spec.proofs.PanelLemmas.{hears_error, hears_later}
use Rattle.c2_validate.specs.Checked.{StoreAsks, validate_heard}
use Rattle.c2_validate.proofs.checking.check_opened.Goals as goal

-- the store was checked
pub returns-in-Ok-clause-answer : goal.returns-in-Ok-clause-answer
returns-in-Ok-clause-answer g c =
    λ file known m i b has. c.answer.ensures ∙ (c.in-Ok.ensures.answer file known m i b has).answer

pub returns-in-Ok-clause-panel : goal.returns-in-Ok-clause-panel
returns-in-Ok-clause-panel g c =
    hears_later _ _ _ validate_heard validate_heard (StoreAsks g.H.Hashing.digest_of c.args.store.now)
    (StoreAsks g.H.Hashing.digest_of c.args.store.now) c.args.judges.now c.check.new.judges c.in-Ok.checked _ tt
    (λ qs asks. asks) c.in-Ok.ensures.panel

-- the check failed
pub returns-in-Err-clause-panel : goal.returns-in-Err-clause-panel
returns-in-Err-clause-panel g c =
    hears_error _ _ _ validate_heard validate_heard (StoreAsks g.H.Hashing.digest_of c.args.store.now)
    (StoreAsks g.H.Hashing.digest_of c.args.store.now) c.args.judges.now c.check.new.judges c.in-Err.error
    c.in-Err.error refl (λ qs asks. asks) c.in-Err.ensures.panel
