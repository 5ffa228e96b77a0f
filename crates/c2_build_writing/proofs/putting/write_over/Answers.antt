use Rattle.std.proofs.Common.{◌≡◌, ◌+◌, ◌-◌, ◌++◌, List, ℕ, length, refl, subst, sym, ◌∙◌, arith}
use Rattle.std.specs.Prelude.{Err}
use Rattle.c2_copying.specs.Writing.{Breaks, IsCopyReadCause, IsStep, ending_of, piece_of}
use Rattle.c2_copying.proofs.Spares.{over_behind, over_more, spends_two, takes_after}
use Rattle.c2_copying.specs.declared.copying.CopyError.{CopyError}
use Rattle.c2_calls_spec.proofs.SourceLemmas.{reads_next, reads_then}
use Rattle.c2_build_writing.specs.Puts.{put_file_len, put_of}
use Rattle.c2_build_writing.proofs.Written.{new_parts, step_back, writes_after}
use Rattle.c2_build_writing.proofs.putting.write_over.Goals as goal

-- ---- the base's front isn't copied

pub returns-in-Err-clause-step : goal.returns-in-Err-clause-step
returns-in-Err-clause-step g c = λ file known.
    let draft = c.args.draft in
    let packets = put_of draft.put c.args.store.now in
    let len : length file ≡ g.B.Source.len c.args.base.now = g.met.B.Source.known_len c.args.base.now file known in
    let size : draft.size ≡ length file = omega (arith, len, c.requires.can.size) in
    subst
    (λ (x : List ℕ). Breaks g.K.Sink.written g.K.Sink.spare g.K.Sink.finished x c.args.out.now c.copy.new.sink (ending_of c.in-Err.error))
    (new_parts file packets draft.start draft.size size c.requires.can.inside)
    (c.steps_follow.ensures.steps.first (piece_of file 0 draft.start) (packets ++ piece_of file draft.start draft.size) c.args.out.now c.copy.new.sink (ending_of c.in-Err.error) (c.in-Err.ensures.step file known))

pub returns-in-Err-clause-spare : goal.returns-in-Err-clause-spare
returns-in-Err-clause-spare g c =
    let draft = c.args.draft in
    over_more (ending_of c.in-Err.error) (g.K.Sink.spare c.args.out.now) (draft.start - 0)
    (put_file_len draft c.args.store.now) (omega (arith, c.requires.can.inside)) c.in-Err.ensures.spare

-- ---- what is put in isn't written

pub returns-in-Err-put_store-clause-step : goal.returns-in-Err-put_store-clause-step
returns-in-Err-put_store-clause-step g c = λ file known.
    let draft = c.args.draft in
    let packets = put_of draft.put c.args.store.now in
    let rest = piece_of file draft.start draft.size in
    let ending = ending_of c.in-Err-put_store.error in
    let step = c.in-Err-put_store.ensures.step in
    let len : length file ≡ g.B.Source.len c.args.base.now = g.met.B.Source.known_len c.args.base.now file known in
    let size : draft.size ≡ length file = omega (arith, len, c.requires.can.size) in
    subst
    (λ (x : List ℕ). Breaks g.K.Sink.written g.K.Sink.spare g.K.Sink.finished x c.args.out.now c.put_store.new.out ending)
    (new_parts file packets draft.start draft.size size c.requires.can.inside)
    (c.steps_follow.ensures.steps.second (piece_of file 0 draft.start) (packets ++ rest) c.args.out.now c.copy.new.sink c.put_store.new.out ending (c.in-Ok.ensures.step file known)
    (c.steps_follow.ensures.steps.first packets rest c.copy.new.sink c.put_store.new.out ending step))

pub returns-in-Err-put_store-clause-spare : goal.returns-in-Err-put_store-clause-spare
returns-in-Err-put_store-clause-spare g c =
    let draft = c.args.draft in
    over_behind (ending_of c.in-Err-put_store.error) (g.K.Sink.spare c.args.out.now)
    (g.K.Sink.spare c.copy.new.sink) (draft.start - 0) (length (put_of draft.put c.args.store.now))
    (put_file_len draft c.args.store.now) c.in-Ok.ensures.spare c.in-Err-put_store.ensures.step.over
    (omega (arith, c.requires.can.inside))

pub returns-in-Err-put_store-clause-reads : goal.returns-in-Err-put_store-clause-reads
returns-in-Err-put_store-clause-reads g c =
    reads_then _ _ _ _ _ c.args.base.now c.copy.new.source c.in-Ok.field-0 (Err c.in-Err-put_store.error)
    (subst (λ (e : CopyError). IsCopyReadCause (g.B.Source.faults c.args.base.now) (g.B.Source.faults c.copy.new.source) e) (sym c.in-Err-put_store.ensures.fault) c.in-Ok.ensures.reads.quiet)
    c.in-Ok.ensures.reads

pub returns-in-Err-put_store-clause-writes : goal.returns-in-Err-put_store-clause-writes
returns-in-Err-put_store-clause-writes g c =
    writes_after g.K.Sink.written g.K.Sink.finished g.K.Sink.faults c.args.out.now c.copy.new.sink
    c.put_store.new.out (Err c.in-Err-put_store.error) c.steps_follow.ensures.stays
    c.in-Ok.ensures.writes.stays c.in-Ok.ensures.writes.quiet c.in-Err-put_store.ensures.writes

-- ---- all is, and then the rest

pub returns-clause-step : goal.returns-clause-step
returns-clause-step g c = λ file known.
    let draft = c.args.draft in
    let packets = put_of draft.put c.args.store.now in
    let rest = piece_of file draft.start draft.size in
    let step = c.in-Ok-put_store.ensures.step in
    let len : length file ≡ g.B.Source.len c.args.base.now = g.met.B.Source.known_len c.args.base.now file known in
    let size : draft.size ≡ length file = omega (arith, len, c.requires.can.size) in
    subst
    (λ (x : List ℕ). IsStep g.K.Sink.written g.K.Sink.spare g.K.Sink.finished x c.args.out.now c.copy-2.new.sink c.copy-2.result)
    (new_parts file packets draft.start draft.size size c.requires.can.inside)
    (step_back g.K.Sink.written g.K.Sink.spare g.K.Sink.finished (piece_of file 0 draft.start) (packets ++ rest) c.args.out.now c.copy.new.sink c.copy-2.new.sink c.copy-2.result c.steps_follow.ensures.steps (c.in-Ok.ensures.step file known)
    (step_back g.K.Sink.written g.K.Sink.spare g.K.Sink.finished packets rest c.copy.new.sink c.put_store.new.out c.copy-2.new.sink c.copy-2.result c.steps_follow.ensures.steps step
    (c.copy-2.ensures.step file (c.in-Ok.ensures.reads.stays.same_bytes ∙ known))))

pub returns-clause-spare : goal.returns-clause-spare
returns-clause-spare g c =
    let draft = c.args.draft in
    let put = length (put_of draft.put c.args.store.now) in
    let front =
    spends_two (g.K.Sink.spare c.args.out.now) (g.K.Sink.spare c.copy.new.sink)
    (g.K.Sink.spare c.put_store.new.out) (draft.start - 0) put (draft.start - 0 + put) c.in-Ok.ensures.spare
    c.in-Ok-put_store.ensures.step.less refl in
    takes_after (g.K.Sink.spare c.args.out.now) (g.K.Sink.spare c.put_store.new.out)
    (g.K.Sink.spare c.copy-2.new.sink) (draft.start - 0 + put) (draft.size - draft.start)
    (put_file_len draft c.args.store.now) c.copy-2.result front c.copy-2.ensures.spare
    (omega (arith, c.requires.can.inside))

pub returns-clause-reads : goal.returns-clause-reads
returns-clause-reads g c =
    reads_next _ _ _ _ _ c.args.base.now c.copy.new.source c.copy-2.new.source c.in-Ok.field-0 c.copy-2.result
    c.in-Ok.ensures.reads c.copy-2.ensures.reads

pub returns-clause-writes : goal.returns-clause-writes
returns-clause-writes g c =
    let both =
    c.steps_follow.ensures.stays.both c.args.out.now c.copy.new.sink c.put_store.new.out
    c.in-Ok.ensures.writes.stays c.in-Ok-put_store.ensures.writes.stays in
    writes_after g.K.Sink.written g.K.Sink.finished g.K.Sink.faults c.args.out.now c.put_store.new.out
    c.copy-2.new.sink c.copy-2.result c.steps_follow.ensures.stays both
    (c.in-Ok-put_store.ensures.writes.quiet ∙ c.in-Ok.ensures.writes.quiet) c.copy-2.ensures.writes
