use Rattle.std.proofs.Common.{◌++◌, refl, sym, ap, ◌∙◌}
use Rattle.std.proofs.lemmas.Result.{err_from_is_err_and}
use Rattle.c2_jpegseg.proofs.Appending.{stops, follows, same, packet_split}
use Rattle.c2_jpegseg.proofs.writing.put_packet.Goals as goal

pub returns-in_err-put : goal.returns-in_err-put
returns-in_err-put g c =
    let rest = c.args.header.now ++ c.args.body.now in
    let total = ap (λ h. h ++ rest) c.head_of.ensures
    ∙ packet_split c.args.header.now c.args.body.now c.args.en c.args.z c.requires.header in
    let p = err_from_is_err_and c.from_residual.result c.from_residual.ensures.1 in
    same g.K.Sink.written g.K.Sink.spare g.K.Sink.finished g.K.Sink.faults _ _ _ _ _ _ total (sym p.1)
    (stops g.K.Sink.written g.K.Sink.spare g.K.Sink.finished g.K.Sink.faults c.head_of.result rest _ _ _ _
    c.in_err-put.ensures)

pub returns-in_err-put-2 : goal.returns-in_err-put-2
returns-in_err-put-2 g c =
    let rest = c.args.header.now ++ c.args.body.now in
    let total = ap (λ h. h ++ rest) c.head_of.ensures
    ∙ packet_split c.args.header.now c.args.body.now c.args.en c.args.z c.requires.header in
    let p = err_from_is_err_and c.from_residual-in_err-put-2.result c.from_residual-in_err-put-2.ensures.1 in
    same g.K.Sink.written g.K.Sink.spare g.K.Sink.finished g.K.Sink.faults _ _ _ _ _ _ total (sym p.1)
    (follows g.K.Sink.written g.K.Sink.spare g.K.Sink.finished g.K.Sink.faults c.head_of.result rest _ _ _ _ _
    c.in_ok-put.ensures
    (stops g.K.Sink.written g.K.Sink.spare g.K.Sink.finished g.K.Sink.faults c.args.header.now c.args.body.now _ _ _ _
    c.in_err-put-2.ensures))

pub returns-in_err-put-3 : goal.returns-in_err-put-3
returns-in_err-put-3 g c =
    let rest = c.args.header.now ++ c.args.body.now in
    let total = ap (λ h. h ++ rest) c.head_of.ensures
    ∙ packet_split c.args.header.now c.args.body.now c.args.en c.args.z c.requires.header in
    let p = err_from_is_err_and c.from_residual-in_err-put-3.result c.from_residual-in_err-put-3.ensures.1 in
    same g.K.Sink.written g.K.Sink.spare g.K.Sink.finished g.K.Sink.faults _ _ _ _ _ _ total (sym p.1)
    (follows g.K.Sink.written g.K.Sink.spare g.K.Sink.finished g.K.Sink.faults c.head_of.result rest _ _ _ _ _
    c.in_ok-put.ensures
    (follows g.K.Sink.written g.K.Sink.spare g.K.Sink.finished g.K.Sink.faults c.args.header.now c.args.body.now
    _ _ _ _ _ c.in_ok-put-2.ensures c.in_err-put-3.ensures))

pub returns : goal.returns
returns g c =
    let rest = c.args.header.now ++ c.args.body.now in
    let total = ap (λ h. h ++ rest) c.head_of.ensures
    ∙ packet_split c.args.header.now c.args.body.now c.args.en c.args.z c.requires.header in
    same g.K.Sink.written g.K.Sink.spare g.K.Sink.finished g.K.Sink.faults _ _ _ _ _ _ total refl
    (follows g.K.Sink.written g.K.Sink.spare g.K.Sink.finished g.K.Sink.faults c.head_of.result rest _ _ _ _ _
    c.in_ok-put.ensures
    (follows g.K.Sink.written g.K.Sink.spare g.K.Sink.finished g.K.Sink.faults c.args.header.now c.args.body.now
    _ _ _ _ _ c.in_ok-put-2.ensures c.in_ok-put-3.ensures))
