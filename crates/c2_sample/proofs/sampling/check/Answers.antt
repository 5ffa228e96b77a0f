use Rattle.std.proofs.Common.{◌∙◌, refl, ap, map, Some}
use Rattle.c2_spec.specs.Judges.Panel.{panel_says}
use Rattle.c2_calls_spec.proofs.PanelLemmas.{hears_error, hears_later}
use Rattle.c2_validate.specs.Checked.{validate_heard}
use Rattle.c2_validate.specs.Validation.{FileAsks}
use Rattle.c2_sample.specs.Sample.{sample_heard}
use Rattle.c2_sample.proofs.Checking.{file_sampled, same_heard}
use Rattle.c2_sample.proofs.Faultless.{check_error}
use Rattle.c2_sample.proofs.sampling.check.Goals as goal

-- the file comes to its lengths and to what the check answers
pub returns-in-Ok-validate-clause-sampled : goal.returns-in-Ok-validate-clause-sampled
returns-in-Ok-validate-clause-sampled g c =
    let said = panel_says (map (λ j. (goal.Judge-dyn g (j.vtable, j.value)).says j.value) c.args.judges.now.items) in
    let known = ap (λ bytes. Some bytes) (c.in-Ok.ensures.same ∙ c.new-source.ensures) in
    file_sampled g.H.Hashing.digest_of said c.args.media _ c.in-Ok.store c.args.file _ c.as_slice.result.now c.in-Ok-validate.answer c.new-source.ensures c.as_slice.ensures.value refl c.in-Ok.ensures.length (c.in-Ok-validate.ensures.answer c.args.file known).is

-- the panel was asked what the check asks
pub returns-in-Ok-validate-clause-panel : goal.returns-in-Ok-validate-clause-panel
returns-in-Ok-validate-clause-panel g c =
    hears_later _ _ _ validate_heard sample_heard (FileAsks g.H.Hashing.digest_of c.args.file) _ c.args.judges.now c.validate.new.judges c.in-Ok-validate.answer _ tt
    (λ qs asks. (c.args.file, ap (λ bytes. Some bytes) (c.in-Ok.ensures.same ∙ c.new-source.ensures), asks)) c.in-Ok-validate.ensures.panel

-- or what it asks up to a fault
pub returns-clause-panel : goal.returns-clause-panel
returns-clause-panel g c =
    hears_error _ _ _ validate_heard sample_heard (FileAsks g.H.Hashing.digest_of c.args.file) _ c.args.judges.now c.validate.new.judges c.in-Err.error c.sample_error.result (same_heard c.in-Err.error c.sample_error.result c.sample_error.ensures)
    (λ qs asks. (c.args.file, ap (λ bytes. Some bytes) (c.in-Ok.ensures.same ∙ c.new-source.ensures), asks)) c.in-Err.ensures.panel

-- no error of the check is a fault of the source
pub sample_error-requires : goal.sample_error-requires
sample_error-requires g c = check_error c.in-Err.error c.in-Err.ensures.reads.cause
