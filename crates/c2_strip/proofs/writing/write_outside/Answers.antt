use Rattle.std.proofs.Common.{ap, ℕ, ◌-◌, Option, ◌∙◌, arith}
use Rattle.std.proofs.lemmas.Bool.{false≢true}
use Rattle.c2_base.specs.Sink.{spare_less}
use Rattle.c2_strip.specs.Stripping.{stripped}
use Rattle.c2_strip.proofs.writing.write_outside.Goals as goal

-- all was written, and the sink can't be finished
pub returns-in-Err-finish-clause-whole : goal.returns-in-Err-finish-clause-whole
returns-in-Err-finish-clause-whole g c = λ file known.
    c.steps_follow.ensures.steps.open_end (stripped c.args.range file) c.args.sink.now c.copy_outside.new.sink c.finish.new.self (c.in-Ok-copy_outside.ensures.step file (c.in-Ok.ensures.stays.same_bytes ∙ known)) c.in-Err-finish.ensures.written c.in-Err-finish.ensures.unfinished
    (λ s is. false≢true (c.in-Err-finish.ensures.within s is (omega arith)))

pub returns-in-Err-finish-clause-spare : goal.returns-in-Err-finish-clause-spare
returns-in-Err-finish-clause-spare g c = λ s there.
    let left = g.S.Source.len c.size.new.self - c.args.range.length in
    absurd (false≢true (c.in-Err-finish.ensures.within _ (c.in-Ok-copy_outside.ensures.spare ∙ ap (λ (o : Option ℕ). spare_less o left) there) (omega arith)))
