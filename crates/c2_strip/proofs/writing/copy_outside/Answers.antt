use Rattle.std.proofs.Common.{◌≡◌, ◌+◌, ◌-◌, List, ℕ, length, ◌∙◌, subst, arith}
use Rattle.c2_copying.specs.Writing.{Breaks, Puts, ending_of, piece_of}
use Rattle.c2_copying.proofs.Spares.{over_behind, over_more, spends_two}
use Rattle.c2_strip.proofs.Taking.{parts_outside}
use Rattle.c2_strip.proofs.writing.copy_outside.Goals as goal

-- what stands in front of the range isn't copied
pub returns-in-Err-clause-step : goal.returns-in-Err-clause-step
returns-in-Err-clause-step g c = λ file known.
    let range = c.args.range in
    let size : c.args.size ≡ length file =
    omega (arith, g.met.S.Source.known_len c.args.source.now file known, c.requires.size) in
    subst
    (λ (x : List ℕ). Breaks g.K.Sink.written g.K.Sink.spare g.K.Sink.finished x c.args.sink.now c.copy.new.sink (ending_of c.in-Err.error))
    (parts_outside file range c.args.size size)
    (c.steps_follow.ensures.steps.first (piece_of file 0 range.start) (piece_of file (range.start + range.length) c.args.size) c.args.sink.now c.copy.new.sink (ending_of c.in-Err.error) (c.in-Err.ensures.step file known))

pub returns-in-Err-clause-spare : goal.returns-in-Err-clause-spare
returns-in-Err-clause-spare g c =
    over_more (ending_of c.in-Err.error) (g.K.Sink.spare c.args.sink.now) (c.args.range.start - 0)
    (g.S.Source.len c.args.source.now - c.args.range.length) (omega (arith, c.requires.inside))
    c.in-Err.ensures.spare

-- it is, and what stands behind it
pub returns-in-Ok-copy-clause-step : goal.returns-in-Ok-copy-clause-step
returns-in-Ok-copy-clause-step g c = λ file known.
    let range = c.args.range in
    let size : c.args.size ≡ length file =
    omega (arith, g.met.S.Source.known_len c.args.source.now file known, c.requires.size) in
    subst (λ (x : List ℕ). Puts g.K.Sink.written g.K.Sink.spare g.K.Sink.finished x c.args.sink.now c.copy-2.new.sink)
    (parts_outside file range c.args.size size)
    (c.steps_follow.ensures.steps.both (piece_of file 0 range.start) (piece_of file (range.start + range.length) c.args.size) c.args.sink.now c.copy.new.sink c.copy-2.new.sink (c.in-Ok.ensures.step file known)
    (c.in-Ok-copy.ensures.step file (c.in-Ok.ensures.reads.stays.same_bytes ∙ known)))

pub returns-in-Ok-copy-clause-spare : goal.returns-in-Ok-copy-clause-spare
returns-in-Ok-copy-clause-spare g c =
    let range = c.args.range in
    spends_two (g.K.Sink.spare c.args.sink.now) (g.K.Sink.spare c.copy.new.sink)
    (g.K.Sink.spare c.copy-2.new.sink) (range.start - 0) (c.args.size - (range.start + range.length))
    (g.S.Source.len c.args.source.now - range.length) c.in-Ok.ensures.spare c.in-Ok-copy.ensures.spare
    (omega (arith, c.requires.size, c.requires.inside))

-- what stands behind it isn't
pub returns-in-Err-copy-clause-step : goal.returns-in-Err-copy-clause-step
returns-in-Err-copy-clause-step g c = λ file known.
    let range = c.args.range in
    let size : c.args.size ≡ length file =
    omega (arith, g.met.S.Source.known_len c.args.source.now file known, c.requires.size) in
    subst
    (λ (x : List ℕ). Breaks g.K.Sink.written g.K.Sink.spare g.K.Sink.finished x c.args.sink.now c.copy-2.new.sink (ending_of c.in-Err-copy.error))
    (parts_outside file range c.args.size size)
    (c.steps_follow.ensures.steps.second (piece_of file 0 range.start) (piece_of file (range.start + range.length) c.args.size) c.args.sink.now c.copy.new.sink c.copy-2.new.sink (ending_of c.in-Err-copy.error) (c.in-Ok.ensures.step file known)
    (c.in-Err-copy.ensures.step file (c.in-Ok.ensures.reads.stays.same_bytes ∙ known)))

pub returns-in-Err-copy-clause-spare : goal.returns-in-Err-copy-clause-spare
returns-in-Err-copy-clause-spare g c =
    let range = c.args.range in
    over_behind (ending_of c.in-Err-copy.error) (g.K.Sink.spare c.args.sink.now)
    (g.K.Sink.spare c.copy.new.sink) (range.start - 0) (c.args.size - (range.start + range.length))
    (g.S.Source.len c.args.source.now - range.length) c.in-Ok.ensures.spare c.in-Err-copy.ensures.spare
    (omega (arith, c.requires.size, c.requires.inside))
